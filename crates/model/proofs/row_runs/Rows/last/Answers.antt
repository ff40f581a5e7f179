use Rattle.std.proofs.Common.{◌≡◌, ◌+◌, ◌-◌, ◌∙◌, Some, ap, arith, length}
use Rattle.model.proofs.RunsAndRows.{last_left, no_run}
use Rattle.model.proofs.row_runs.Rows.last.Goals as goal

pub returns-in-len1-up : goal.returns-in-len1-up
returns-in-len1-up c =
    let a = c.self.inside in
    let last : length a.runs.now - 1 + 1 ≡ length a.runs.now = omega (arith, c.in-len1-up.len_at_least) in
    rw (← c.self.view_is)
    (ap Some c.last.ensures ∙ last_left a.passed a.runs.now (length a.runs.now - 1) no_run c.self.invariant.sound
    c.self.invariant.inside last)
