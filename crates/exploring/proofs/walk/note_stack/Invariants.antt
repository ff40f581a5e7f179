use Rattle.std.proofs.Common.{◌≡◌, map, reverse, take}
use Rattle.model.specs.Collector.Places.{ref_of}
use Rattle.collector.specs.Reaching.{all_noted}
use Rattle.exploring.proofs.walk.note_stack.Given as goal

-- those below are left
abbrev pub invariant-loop-place : goal.invariant-loop-place
invariant-loop-place l = all_noted l.reaching (reverse (map ref_of (take l.place l.stack)))
    ≡ all_noted l.fn.reaching (reverse (map ref_of l.stack))
