use Rattle.std.proofs.Common.{◌∙◌, count_by, is_some, sym}
use Rattle.debugger.proofs.FreeRuns.{holds_none, zero_is}
use Rattle.debugger.proofs.runs.run.Goals as goal

pub run_freely-requires : goal.run_freely-requires
run_freely-requires c =
    let bs = c.args.breakpoints.now.slots in
    holds_none bs (zero_is (count_by is_some bs) (sym c.is_empty.ensures ∙ c.if-is_empty.true))
