use Rattle.classfile.specs.Made.{made}
use Rattle.classfile.proofs.MadeLaws.{entries_refused}
use Rattle.classfile.proofs.files.ClassFile.new.Goals as goal

pub returns-in-Err-clause-refused : goal.returns-in-Err-clause-refused
returns-in-Err-clause-refused c =
    entries_refused (made c.args.pool c.args.body) c.in-Err.error c.from.result c.from.ensures c.in-Err.ensures.exact
