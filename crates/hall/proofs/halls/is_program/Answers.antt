use Rattle.std.proofs.Common.{◌∙◌, sym}
use Rattle.loader.proofs.EqualPrograms.{equal-programs}
use Rattle.hall.proofs.halls.is_program.Goals as goal

pub returns : goal.returns
returns c = λ same. (equal-programs c.args.a.now c.args.b.now).0 (sym c.eq.ensures ∙ same)
