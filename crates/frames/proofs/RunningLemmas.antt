-- the running frame after a change
use Rattle.std.proofs.Common.{◌≡◌, ℕ, zero, suc, slice_get, slice_set, Option, Some, ◌+◌, ◌-◌, ◌<◌, ◌≤◌, List, [], ◌∷◌}
use Rattle.std.proofs.Common.{length, drop, take, Ok, Err, refl, ap, sym, ◌∙◌, arith}
use Rattle.std.specs.Prelude.{ℤ}
use Rattle.std.proofs.lemmas.List.{length-set, set-set, set_comm, set-get_or, get_or-set_same}
use Rattle.model.specs.Frames.{Frame, running_frame, with_running, no_frame, replaced, replaced_if_room, push_all}
use Rattle.frames.specs.Reported.{moved_on}
use Rattle.model.specs.declared.turns.Abrupt.TheVariants.{Fault as Faulted}
use Rattle.model.specs.declared.turns.Fault.TheVariants.{StackFull}
use Rattle.frames.proofs.StackLemmas.{units_of_all-take-drop}
use Rattle.std.proofs.lemmas.Bool.{lt-leb, le-leb}
use Rattle.model.specs.declared.values.Value.{Value}
use Rattle.model.specs.declared.values.Value.TheVariants.{Int, Long, Ref}
use Rattle.model.specs.declared.values.Entry.{Entry}
use Rattle.model.specs.declared.values.Entry.TheVariants.{Unset, Holds, UpperHalf}
use Rattle.model.specs.Locals.{without_half, freed, with_local, stored}
use Rattle.model.specs.Values.{units_of, units_of_all}

pub length-with_running : (frames : List Frame) (f : Frame) → length (with_running frames f) ≡ length frames
length-with_running frames f = length-set frames (length frames - 1) f

pub some-with_running : (frames after : List Frame) (f : Frame) → 0 < length frames → after ≡ with_running frames f
    → 0 < length after
some-with_running frames after f some is = omega (arith, ap length is, length-with_running frames f)

pub running_frame-with_running : (frames after : List Frame) (f : Frame) → 0 < length frames
    → after ≡ with_running frames f → running_frame after ≡ f
running_frame-with_running frames after f some is =
    rw (is, length-set) (get_or-set_same frames (length frames - 1) f no_frame (omega arith))

pub with_running-with_running : (frames between after : List Frame) (f g : Frame) → between ≡ with_running frames f
    → after ≡ with_running between g → after ≡ with_running frames g
with_running-with_running frames between after f g first second =
    rw (second, first, length-set) (set-set frames (length frames - 1) f g)

-- ---- changes of the running frame, one after another

abbrev pub without : ℕ → ℕ → Frame → Frame
without next count f = record f { pc = next; stack = drop count f.stack }

abbrev pub with_value : Value → Frame → Frame
with_value v f = record f { stack = v ∷ f.stack }

-- there is room for a value where so many units were dropped
pub room_after : (old dropped : List Frame) (next count : ℕ) (v : Value) → 0 < length old
    → dropped ≡ with_running old (without next count (running_frame old))
    → units_of v + units_of_all (drop count (running_frame old).stack) ≤ (running_frame old).room
    → units_of v + units_of_all (running_frame dropped).stack ≤ (running_frame dropped).room
room_after old dropped next count v some first fits =
    let runs = running_frame-with_running old dropped (without next count (running_frame old)) some first in
    rw runs fits

-- ---- values where they have room

pub units_of_all-push_all : (vs stack : List Value) → units_of_all (push_all vs stack)
    ≡ units_of_all vs + units_of_all stack
units_of_all-push_all [] stack = omega arith
units_of_all-push_all (v ∷ vs) stack = let rest = units_of_all-push_all vs (v ∷ stack) in omega arith

-- so many units are taken, and so many of them are those of the values that go
pub record Sized (old : List Frame) (count above taken room : ℕ) : Type 0 where
  pub above_is : above ≡ units_of_all (take count (running_frame old).stack)
  pub taken_is : taken ≡ units_of_all (running_frame old).stack
  pub room_is : room ≡ (running_frame old).room

pub above_le : (old : List Frame) (count above taken room : ℕ) → Sized old count above taken room → above ≤ taken
above_le old count above taken room s =
    let parts = units_of_all-take-drop (running_frame old).stack count in
    let above_is = s.above_is in
    let taken_is = s.taken_is in
    omega arith

pub stack_is_full : (old : List Frame) (count above taken room next : ℕ) (vs : List Value)
    → Sized old count above taken room → room < taken - above + units_of_all vs → Err (Faulted StackFull)
    ≡ moved_on old (replaced_if_room next (running_frame old) count vs)
stack_is_full old count above taken room next vs s full =
    let parts = units_of_all-take-drop (running_frame old).stack count in
    let all = units_of_all-push_all vs (drop count (running_frame old).stack) in
    let above_is = s.above_is in
    let taken_is = s.taken_is in
    let room_is = s.room_is in
    let no = lt-leb (units_of_all (push_all vs (drop count (running_frame old).stack))) (running_frame old).room
    (omega arith) in
    rw no

pub stack_has_room : (old after : List Frame) (count above taken room next : ℕ) (vs : List Value)
    → Sized old count above taken room → taken - above + units_of_all vs ≤ room
    → after ≡ with_running old (replaced next (running_frame old) count vs).frame
    → Ok after ≡ moved_on old (replaced_if_room next (running_frame old) count vs)
stack_has_room old after count above taken room next vs s fits is =
    let parts = units_of_all-take-drop (running_frame old).stack count in
    let all = units_of_all-push_all vs (drop count (running_frame old).stack) in
    let above_is = s.above_is in
    let taken_is = s.taken_is in
    let room_is = s.room_is in
    let yes = le-leb (units_of_all (push_all vs (drop count (running_frame old).stack))) (running_frame old).room
    (omega arith) in
    rw (yes, is)

pub room_for_value : (old dropped : List Frame) (next count above taken room : ℕ) (v : Value) → 0 < length old
    → dropped ≡ with_running old (without next count (running_frame old)) → Sized old count above taken room
    → taken - above + units_of v ≤ room
    → units_of v + units_of_all (running_frame dropped).stack ≤ (running_frame dropped).room
room_for_value old dropped next count above taken room v some first s fits =
    let parts = units_of_all-take-drop (running_frame old).stack count in
    let above_is = s.above_is in
    let taken_is = s.taken_is in
    let room_is = s.room_is in
    room_after old dropped next count v some first (omega arith)

-- ---- changes in general

-- one change after another
pub then_changed : (change then : Frame → Frame) (old between after : List Frame) → 0 < length old
    → between ≡ with_running old (change (running_frame old))
    → after ≡ with_running between (then (running_frame between))
    → after ≡ with_running old (then (change (running_frame old)))
then_changed change then old between after some first second =
    let runs = running_frame-with_running old between (change (running_frame old)) some first in
    with_running-with_running old between after (change (running_frame old)) (then (change (running_frame old))) first
    (second ∙ ap (λ (f : Frame). with_running between (then f)) runs)

-- values are dropped, and one is pushed
pub replaces : (old dropped after : List Frame) (next count : ℕ) (v : Value) → 0 < length old
    → dropped ≡ with_running old (without next count (running_frame old))
    → after ≡ with_running dropped (with_value v (running_frame dropped))
    → after ≡ with_running old (replaced next (running_frame old) count (v ∷ [])).frame
replaces old dropped after next count v some first second = then_changed (without next count) (with_value v) old dropped
    after some first second

-- no change
pub unchanged : (frames : List Frame) → 0 < length frames → frames ≡ with_running frames (running_frame frames)
unchanged frames some = sym (set-get_or frames (length frames - 1) no_frame)

pub ruleset changes = (unchanged, length-with_running)

-- ---- changes of the locals

abbrev pub at_locals : (List Entry → List Entry) → Frame → Frame
at_locals change f = record f { locals = change f.locals }

pub with_local-int : (locals : List Entry) (index : ℕ) (v : Value) (z : ℤ) → v ≡ Int z → with_local locals index v
    ≡ slice_set (freed locals index) index (Holds v)
with_local-int locals index v z is = rw is

pub with_local-ref : (locals : List Entry) (index : ℕ) (v : Value) (r : Option ℕ) → v ≡ Ref r → with_local locals
    index v ≡ slice_set (freed locals index) index (Holds v)
with_local-ref locals index v r is = rw is

pub with_local-long : (locals : List Entry) (index : ℕ) (v : Value) (z : ℤ) → v ≡ Long z → with_local locals index v
    ≡ slice_set (slice_set (freed (freed locals index) (index + 1)) index (Holds v)) (index + 1) UpperHalf
with_local-long locals index v z is = rw is

-- a value of one entry is stored
pub puts_one : (old freed_one after : List Frame) (index : ℕ) (e : Entry) → 0 < length old → freed_one
    ≡ with_running old (at_locals (λ ls. freed ls index) (running_frame old))
    → after ≡ with_running freed_one (at_locals (λ ls. slice_set ls index e) (running_frame freed_one))
    → after ≡ with_running old (at_locals (λ ls. slice_set (freed ls index) index e) (running_frame old))
puts_one old freed_one after index e some first second =
    then_changed (at_locals (λ ls. freed ls index)) (at_locals (λ ls. slice_set ls index e)) old freed_one after some
    first second

-- an entry is written, and the upper half of a long after it
abbrev pub in_two : List Entry → ℕ → Entry → List Entry
in_two locals index e = slice_set (slice_set locals index e) (index + 1) UpperHalf

pub sets_two : (old between after : List Frame) (index : ℕ) (e : Entry) → 0 < length old
    → between ≡ with_running old (at_locals (λ ls. slice_set ls index e) (running_frame old))
    → after ≡ with_running between (at_locals (λ ls. slice_set ls (index + 1) UpperHalf) (running_frame between))
    → after ≡ with_running old (at_locals (λ ls. in_two ls index e) (running_frame old))
sets_two old between after index e some first second = then_changed (at_locals (λ ls. slice_set ls index e))
    (at_locals (λ ls. slice_set ls (index + 1) UpperHalf)) old between after some first second

-- a long is stored
pub puts_two : (old freed_one freed_two after : List Frame) (index : ℕ) (e : Entry) → 0 < length old → freed_one
    ≡ with_running old (at_locals (λ ls. freed ls index) (running_frame old)) → freed_two
    ≡ with_running freed_one (at_locals (λ ls. freed ls (index + 1)) (running_frame freed_one))
    → after ≡ with_running freed_two (at_locals (λ ls. in_two ls index e) (running_frame freed_two))
    → after ≡ with_running old (at_locals (λ ls. in_two (freed (freed ls index) (index + 1)) index e)
    (running_frame old))
puts_two old freed_one freed_two after index e some first second third =
    let two = then_changed (at_locals (λ ls. freed ls index)) (at_locals (λ ls. freed ls (index + 1))) old freed_one
    freed_two some first second in
    then_changed (at_locals (λ ls. freed (freed ls index) (index + 1))) (at_locals (λ ls. in_two ls index e)) old
    freed_two after some two third

-- where an entry was made unset, nothing is to be freed
pub nothing_to_free : (whole locals : List Entry) (index at : ℕ)
    → without_half whole at (slice_get (slice_set locals index Unset) index) ≡ whole
nothing_to_free whole [] index at = refl
nothing_to_free whole (e ∷ locals) zero at = refl
nothing_to_free whole (e ∷ locals) (suc index) at = nothing_to_free whole locals index at

-- a long over another one
pub over_long : (locals : List Entry) (index : ℕ) (z : ℤ) (e : Entry) → slice_get locals index ≡ Some (Holds (Long z))
    → in_two (freed (freed locals index) (index + 1)) index e ≡ in_two locals index e
over_long locals index z e is =
    let half : freed locals index ≡ slice_set locals (index + 1) Unset = ap (without_half locals index) is in
    let none : freed (slice_set locals (index + 1) Unset) (index + 1)
    ≡ slice_set locals (index + 1) Unset = nothing_to_free (slice_set locals (index + 1) Unset) locals (index + 1)
    (index + 1) in
    let order : slice_set (slice_set locals (index + 1) Unset) index e
    ≡ slice_set (slice_set locals index e) (index + 1) Unset = set_comm locals (index + 1)
    index Unset e (omega arith) in
    rw (half, none, order, set-set)

pub puts_over_long : (old after : List Frame) (index : ℕ) (z : ℤ) (e : Entry) → slice_get (running_frame old).locals
    index ≡ Some (Holds (Long z)) → after ≡ with_running old (at_locals (λ ls. in_two ls index e) (running_frame old))
    → after ≡ with_running old (at_locals (λ ls. in_two (freed (freed ls index) (index + 1)) index e)
    (running_frame old))
puts_over_long old after index z e is set = rw (over_long (running_frame old).locals index z e is) set

-- values are dropped, and one is stored
pub stores : (old dropped after : List Frame) (next count index : ℕ) (v : Value) → 0 < length old
    → dropped ≡ with_running old (replaced next (running_frame old) count []).frame
    → after ≡ with_running dropped (at_locals (λ ls. with_local ls index v) (running_frame dropped))
    → after ≡ with_running old (stored next (running_frame old) count index v).frame
stores old dropped after next count index v some first second = then_changed (λ f. (replaced next f count []).frame)
    (at_locals (λ ls. with_local ls index v)) old dropped after some first second
