use Rattle.std.proofs.Common.{◌≡◌, false}
use Rattle.std.specs.Prelude.{slice_index_or}
use Rattle.model.specs.declared.places.CodePlace.{CodePlace}
use Rattle.instructions.specs.Stops.{number_of}
use Rattle.debugger.specs.Breakpoints.{first_at, least_at}
use Rattle.debugger.proofs.runs.marks_of.Given as goal

-- where a place isn't marked, those that are left lead to the same
abbrev pub invariant-loop-number : goal.invariant-loop-number
invariant-loop-number l =
    (goal.iterator-loop-number).can_next l._number-iterator × (goal.iterator-loop-number).is_finite l._number-iterator
    × ((place : CodePlace) → slice_index_or l.marks (number_of place) false ≡ false
    → first_at place l._number-iterator ≡ least_at l.breakpoints.slots place)
