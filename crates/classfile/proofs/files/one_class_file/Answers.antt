use Rattle.classfile.proofs.ClassLaws.{one_file}
use Rattle.classfile.proofs.files.one_class_file.Goals as goal

pub returns : goal.returns
returns c = one_file
