use Rattle.std.proofs.Common.{◌≡◌, ℕ, zero, suc, ◌+◌, List, [], ◌∷◌, ◌++◌, length, drop, map, Some, Result, Ok, Err}
use Rattle.std.proofs.lemmas.List.{map-append}
use Rattle.model.specs.declared.values.Value.{Value}
use Rattle.model.specs.declared.values.Value.TheVariants.{Int, Long, Ref}
use Rattle.model.specs.declared.turns.Fault.{Fault}
use Rattle.model.specs.declared.instructions.StackOperation.{StackOperation}
use Rattle.model.specs.declared.instructions.StackOperation.TheVariants.{Pop, Pop2, Dup, DupX1, DupX2, Dup2, Dup2X1}
use Rattle.model.specs.declared.instructions.StackOperation.TheVariants.{Dup2X2, Swap}
use Rattle.model.specs.Frames.{Frame, running, both}
use Rattle.model.specs.Worlds.{World, frames_at}
use Rattle.model.specs.Table.Stacks.{with_top, unit_on, Units, group_on, with_group_below, groups_on, popped_on}
use Rattle.model.specs.Table.Stacks.{doubled_on, inserted_on, swapped_on, rearranged}
use Rattle.model.specs.Table.Stacks.Units.{One, Two}
use Rattle.model.specs.Collector.Places.{ref_of, Reach}
use Rattle.model.specs.Collector.Moves.{ResultMoves}
use Rattle.model.proofs.CollectorLemmas.Moving.{AllMay}
use Rattle.model.proofs.CollectorLemmas.Known.{may_both, stack_known}
use Rattle.model.proofs.CollectorLemmas.Stepping.{replaced_lawful, if_room_lawful}

-- A group that was found is of the stack: what holds of each reference on the stack holds of the group's.

-- what holds of the references among some values
abbrev Hold : (ℕ → Type 0) → List Value → Type 0
Hold Q vs = AllMay Q (map ref_of vs)

abbrev Holds : (ℕ → Type 0) → Result (List Value) Fault → Type 0
Holds Q (Err e) = Unit {0}
Holds Q (Ok group) = Hold Q group

abbrev HoldBoth : (ℕ → Type 0) → Result (List Value × List Value) Fault → Type 0
HoldBoth Q (Err e) = Unit {0}
HoldBoth Q (Ok groups) = Hold Q groups.0 × Hold Q groups.1

hold_append : (Q : ℕ → Type 0) (vs us : List Value) → Hold Q vs → Hold Q us → Hold Q (vs ++ us)
hold_append Q vs us h k = rw (map-append ref_of vs us) (may_both Q (map ref_of vs) (map ref_of us) h k)

hold_drop : (Q : ℕ → Type 0) (n : ℕ) (vs : List Value) → Hold Q vs → Hold Q (drop n vs)
hold_drop Q zero vs h = h
hold_drop Q (suc n) [] h = tt
hold_drop Q (suc n) (v ∷ vs) h = hold_drop Q n vs h.1

unit_may : (Q : ℕ → Type 0) (stack : List Value) → Hold Q stack → Holds Q (unit_on stack)
unit_may Q [] h = tt
unit_may Q (Int z ∷ stack) h = (h.0, tt)
unit_may Q (Long z ∷ stack) h = tt
unit_may Q (Ref r ∷ stack) h = (h.0, tt)

top_may : (Q : ℕ → Type 0) (v : Value) (r : Result (List Value) Fault) → Hold Q (v ∷ []) → Holds Q r
    → Holds Q (with_top v r)
top_may Q v (Err e) h k = tt
top_may Q v (Ok group) h k = hold_append Q group (v ∷ []) k h

group_may : (Q : ℕ → Type 0) (units : Units) (stack : List Value) → Hold Q stack → Holds Q (group_on units stack)
group_may Q One stack h = unit_may Q stack h
group_may Q Two [] h = tt
group_may Q Two (Int z ∷ stack) h = top_may Q (Int z) (unit_on stack) (h.0, tt) (unit_may Q stack h.1)
group_may Q Two (Long z ∷ stack) h = (h.0, tt)
group_may Q Two (Ref r ∷ stack) h = top_may Q (Ref r) (unit_on stack) (h.0, tt) (unit_may Q stack h.1)

both_may : (Q : ℕ → Type 0) (upper : List Value) (r : Result (List Value) Fault) → Hold Q upper → Holds Q r
    → HoldBoth Q (both (Ok upper) r)
both_may Q upper (Err e) h k = tt
both_may Q upper (Ok below) h k = (h, k)

below_may : (Q : ℕ → Type 0) (below : Units) (stack : List Value) (r : Result (List Value) Fault) → Hold Q stack
    → Holds Q r → HoldBoth Q (with_group_below below stack r)
below_may Q below stack (Err e) h k = tt
below_may Q below stack (Ok upper) h k = both_may Q upper (group_on below (drop (length upper) stack)) k
    (group_may Q below (drop (length upper) stack) (hold_drop Q (length upper) stack h))

groups_may : (Q : ℕ → Type 0) (upper below : Units) (stack : List Value) → Hold Q stack
    → HoldBoth Q (groups_on upper below stack)
groups_may Q upper below stack h = below_may Q below stack (group_on upper stack) h (group_may Q upper stack h)

-- ---- the moves

popped_lawful : (w : World) (next : ℕ) (f : Frame) (r : Result (List Value) Fault)
    → ResultMoves w f (popped_on next f r)
popped_lawful w next f (Err e) = tt
popped_lawful w next f (Ok group) = replaced_lawful w next f (length group) [] tt

doubled_lawful : (w : World) (next : ℕ) (f : Frame) (r : Result (List Value) Fault) → Holds (Reach w) r
    → ResultMoves w f (doubled_on next f r)
doubled_lawful w next f (Err e) h = tt
doubled_lawful w next f (Ok group) h = if_room_lawful w next f (length group) (group ++ group)
    (hold_append (Reach w) group group h h)

inserted_lawful : (w : World) (next : ℕ) (f : Frame) (r : Result (List Value × List Value) Fault) → HoldBoth (Reach w) r
    → ResultMoves w f (inserted_on next f r)
inserted_lawful w next f (Err e) h = tt
inserted_lawful w next f (Ok groups) h =
    if_room_lawful w next f (length groups.0 + length groups.1) (groups.0 ++ groups.1 ++ groups.0)
    (hold_append (Reach w) (groups.0 ++ groups.1) groups.0 (hold_append (Reach w) groups.0 groups.1 h.0 h.1) h.0)

swapped_lawful : (w : World) (next : ℕ) (f : Frame) (r : Result (List Value × List Value) Fault) → HoldBoth (Reach w) r
    → ResultMoves w f (swapped_on next f r)
swapped_lawful w next f (Err e) h = tt
swapped_lawful w next f (Ok groups) h =
    replaced_lawful w next f (length groups.0 + length groups.1) (groups.0 ++ groups.1)
    (hold_append (Reach w) groups.0 groups.1 h.0 h.1)

doubled_by : (w : World) (t next : ℕ) (units : Units) (f : Frame) → running (frames_at w t) ≡ Some f
    → ResultMoves w f (doubled_on next f (group_on units f.stack))
doubled_by w t next units f e = doubled_lawful w next f (group_on units f.stack)
    (group_may (Reach w) units f.stack (stack_known w t _ f e))

inserted_by : (w : World) (t next : ℕ) (upper below : Units) (f : Frame) → running (frames_at w t) ≡ Some f
    → ResultMoves w f (inserted_on next f (groups_on upper below f.stack))
inserted_by w t next upper below f e =
    inserted_lawful w next f (groups_on upper below f.stack) (groups_may (Reach w) upper below f.stack
    (stack_known w t _ f e))

pub rearranged_lawful : (w : World) (t next : ℕ) (operation : StackOperation) (f : Frame) → running (frames_at w t)
    ≡ Some f → ResultMoves w f (rearranged next operation f)
rearranged_lawful w t next Pop f e = popped_lawful w next f (group_on One f.stack)
rearranged_lawful w t next Pop2 f e = popped_lawful w next f (group_on Two f.stack)
rearranged_lawful w t next Dup f e = doubled_by w t next One f e
rearranged_lawful w t next DupX1 f e = inserted_by w t next One One f e
rearranged_lawful w t next DupX2 f e = inserted_by w t next One Two f e
rearranged_lawful w t next Dup2 f e = doubled_by w t next Two f e
rearranged_lawful w t next Dup2X1 f e = inserted_by w t next Two One f e
rearranged_lawful w t next Dup2X2 f e = inserted_by w t next Two Two f e
rearranged_lawful w t next Swap f e = swapped_lawful w next f (groups_on One One f.stack)
    (groups_may (Reach w) One One f.stack (stack_known w t _ f e))
