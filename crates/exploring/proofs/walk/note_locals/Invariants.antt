use Rattle.std.proofs.Common.{◌≡◌, map, drop}
use Rattle.model.specs.Collector.Places.{entry_ref}
use Rattle.collector.specs.Reaching.{all_noted}
use Rattle.exploring.proofs.walk.note_locals.Given as goal

-- those that are left complete the marking
abbrev pub invariant-loop-local : goal.invariant-loop-local
invariant-loop-local l = all_noted l.reaching (map entry_ref (drop l.local-index l.locals)) ≡ all_noted l.fn.reaching (map entry_ref l.locals)
