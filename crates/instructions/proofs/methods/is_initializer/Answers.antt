use Rattle.std.proofs.Common.{Some, None, ◌∙◌}
use Rattle.instructions.proofs.MethodLemmas.{initializer-found}
use Rattle.instructions.proofs.methods.is_initializer.Goals as goal

pub returns-in-Some : goal.returns-in-Some
returns-in-Some c =
    c.is_initializer.ensures ∙ initializer-found c.args.program.now c.args.place (Some c.in-Some.method.now)
    c.in-Some.ensures

pub returns-in-None : goal.returns-in-None
returns-in-None c = initializer-found c.args.program.now c.args.place None c.in-None.ensures
