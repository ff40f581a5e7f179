use Rattle.std.proofs.Common.{◌∙◌, take, get_or, length, sym, ap, arith}
use Rattle.std.specs.List.{find}
use Rattle.std.proofs.lemmas.List.{length-take-le}
use Rattle.model.specs.Accepted.LimitsOfClasses.{is_too_large}
use Rattle.acceptance.proofs.LimitLemmas.{first_past_limits-few, first_past_limits-last}
use Rattle.acceptance.proofs.limits.first_past_limits.Goals as goal

pub returns-then-program-le256 : goal.returns-then-program-le256
returns-then-program-le256 c =
    let program = c.args.classes.now in
    c.first_too_large.ensures ∙ ap (find (is_too_large program)) c.program-program.ensures
    ∙ first_past_limits-few program (omega (arith, ap length c.program-program.ensures))

pub slice_bounds-first_too_large-end : goal.slice_bounds-first_too_large-end
slice_bounds-first_too_large-end c = sym (length-take-le 256 c.program-program.result.now (omega arith))

pub returns-in-None : goal.returns-in-None
returns-in-None c =
    let program = c.args.classes.now in
    let found = c.index-program-256.result in
    first_past_limits-last program found (omega (arith, ap length c.program-program.ensures))
    (c.in-None.ensures ∙ ap (λ cs. find (is_too_large program) (take 256 cs)) c.program-program.ensures)
    (c.index-program-256.is ∙ ap (λ cs. get_or cs 256 found) c.program-program.ensures)
