use Rattle.std.proofs.Common.{Some, None, ap, ◌∙◌}
use Rattle.model.specs.Table.Returns.{same_result}
use Rattle.instructions.proofs.MethodLemmas.{gives-found}
use Rattle.instructions.proofs.methods.gives.Goals as goal

pub returns-in-Some : goal.returns-in-Some
returns-in-Some c =
    c.same_result.ensures
    ∙ ap (same_result c.args.kind) c.result.ensures
    ∙ gives-found c.args.program.now c.args.place c.args.kind (Some c.in-Some.method.now) c.in-Some.ensures

pub returns-in-None : goal.returns-in-None
returns-in-None c = gives-found c.args.program.now c.args.place c.args.kind None c.in-None.ensures
