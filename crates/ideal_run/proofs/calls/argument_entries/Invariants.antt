use Rattle.std.proofs.Common.{◌≡◌, take}
use Rattle.model.specs.Locals.{argument_entries}
use Rattle.ideal_run.proofs.calls.argument_entries.Given as goal

-- those so far
abbrev pub invariant-loop-value : goal.invariant-loop-value
invariant-loop-value l = l.entries.items ≡ argument_entries (take l.value-index l.arguments)
