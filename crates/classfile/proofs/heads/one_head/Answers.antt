use Rattle.classfile.proofs.HeadLaws.{one_alone}
use Rattle.classfile.proofs.heads.one_head.Goals as goal

pub returns : goal.returns
returns c = λ a b x y h k s t e. one_alone a b x y h k s t e
