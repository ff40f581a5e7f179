use Rattle.std.proofs.Common.{◌≡◌, map, drop}
use Rattle.model.specs.Collector.Places.{ref_of}
use Rattle.collector.specs.Reaching.{all_noted}
use Rattle.exploring.proofs.walk.note_values.Given as goal

-- those that are left complete the marking
abbrev pub invariant-loop-value : goal.invariant-loop-value
invariant-loop-value l = all_noted l.reaching (map ref_of (drop l.value-index l.values)) ≡ all_noted l.fn.reaching (map ref_of l.values)
