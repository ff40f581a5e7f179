-- several values are pushed, one after another
use Rattle.std.proofs.Common.{◌≡◌, ℕ, zero, suc, ◌+◌, ◌-◌, ◌<◌, ◌≤◌, List, [], ◌∷◌, length, take, drop, slice_index_or}
use Rattle.std.proofs.Common.{refl, arith, add-one}
use Rattle.model.specs.declared.values.Value.{Value}
use Rattle.model.specs.Values.{units_of, units_of_all}
use Rattle.model.specs.Frames.{Frame, running_frame, with_running, push_all, replaced}
use Rattle.frames.proofs.StackLemmas.{units_of_all-take-drop}
use Rattle.frames.proofs.RunningLemmas.{running_frame-with_running, then_changed, units_of_all-push_all, without}
use Rattle.frames.proofs.RunningLemmas.{with_value, Sized}

pub units_of_all-take_at : (vs : List Value) (i : ℕ) (d : Value) → i < length vs → units_of_all (take (i + 1) vs)
    ≡ units_of_all (take i vs) + units_of (slice_index_or vs i d)
units_of_all-take_at [] i d h = absurd (omega arith)
units_of_all-take_at (v ∷ vs) zero d h = omega arith
units_of_all-take_at (v ∷ vs) (suc i) d h = let rest = units_of_all-take_at vs i d (omega arith)
    in let e : units_of_all (take (suc i) vs)
    ≡ units_of_all (take i vs) + units_of
    (slice_index_or vs i d) = rw (← add-one) rest
    in rw add-one (omega arith)

pub units_of_all-take_le : (vs : List Value) (i : ℕ) → units_of_all (take i vs) ≤ units_of_all vs
units_of_all-take_le vs i = let parts = units_of_all-take-drop vs i in omega arith

pub push_all-take_at : (vs stack : List Value) (i : ℕ) (d : Value) → i < length vs → push_all (take (i + 1) vs) stack
    ≡ slice_index_or vs i d ∷ push_all (take i vs) stack
push_all-take_at [] stack i d h = absurd (omega arith)
push_all-take_at (v ∷ vs) stack zero d h = refl
push_all-take_at (v ∷ vs) stack (suc i) d h =
    let rest = push_all-take_at vs (v ∷ stack) i d (omega arith) in
    let e : push_all (take (suc i) vs) (v ∷ stack) ≡ slice_index_or vs i d ∷ push_all (take i vs) (v ∷ stack) = rw
    (← add-one) rest in
    rw add-one e

abbrev pub with_values : List Value → Frame → Frame
with_values vs f = record f { stack = push_all vs f.stack }

-- there is room for the next value
pub room_for_next : (old now : List Frame) (vs : List Value) (i : ℕ) (d : Value) → 0 < length old
    → units_of_all (push_all vs (running_frame old).stack) ≤ (running_frame old).room
    → now ≡ with_running old (with_values (take i vs) (running_frame old)) → i < length vs
    → units_of (slice_index_or vs i d) + units_of_all (running_frame now).stack ≤ (running_frame now).room
room_for_next old now vs i d some room is within =
    let runs = running_frame-with_running old now (with_values (take i vs) (running_frame old)) some is in
    let all = units_of_all-push_all vs (running_frame old).stack in
    let part = units_of_all-push_all (take i vs) (running_frame old).stack in
    let more = units_of_all-take_at vs i d within in
    let le = units_of_all-take_le vs (i + 1) in
    rw runs (omega arith)

-- the next value is pushed
pub pushed_next : (old now after : List Frame) (vs : List Value) (i : ℕ) (d : Value) → 0 < length old
    → now ≡ with_running old (with_values (take i vs) (running_frame old)) → i < length vs
    → after ≡ with_running now (with_value (slice_index_or vs i d) (running_frame now))
    → after ≡ with_running old (with_values (take (i + 1) vs) (running_frame old))
pushed_next old now after vs i d some is within second =
    let e = push_all-take_at vs (running_frame old).stack i d within in
    rw e (then_changed (with_values (take i vs)) (with_value (slice_index_or vs i d)) old now after some is second)

-- there is room for values where others were dropped
pub room_for_values : (old dropped : List Frame) (next count above taken room : ℕ) (vs : List Value) → 0 < length old
    → dropped ≡ with_running old (without next count (running_frame old)) → Sized old count above taken room
    → taken - above + units_of_all vs ≤ room
    → units_of_all (push_all vs (running_frame dropped).stack) ≤ (running_frame dropped).room
room_for_values old dropped next count above taken room vs some first s fits =
    let parts = units_of_all-take-drop (running_frame old).stack count in
    let all = units_of_all-push_all vs (drop count (running_frame old).stack) in
    let above_is = s.above_is in
    let taken_is = s.taken_is in
    let room_is = s.room_is in
    let runs = running_frame-with_running old dropped (without next count (running_frame old)) some first in
    rw runs (omega arith)

-- the same where they take no more room than those that were dropped
pub room_for_no_more : (old dropped : List Frame) (next count above : ℕ) (vs : List Value) → 0 < length old
    → dropped ≡ with_running old (without next count (running_frame old))
    → above + units_of_all (drop count (running_frame old).stack) ≤ (running_frame old).room → units_of_all vs ≤ above
    → units_of_all (push_all vs (running_frame dropped).stack) ≤ (running_frame dropped).room
room_for_no_more old dropped next count above vs some first room fits =
    let all = units_of_all-push_all vs (drop count (running_frame old).stack) in
    let runs = running_frame-with_running old dropped (without next count (running_frame old)) some first in
    rw runs (omega arith)

-- values are dropped, and others are pushed
pub replaces_all : (old dropped after : List Frame) (next count : ℕ) (vs : List Value) → 0 < length old
    → dropped ≡ with_running old (without next count (running_frame old))
    → after ≡ with_running dropped (with_values vs (running_frame dropped))
    → after ≡ with_running old (replaced next (running_frame old) count vs).frame
replaces_all old dropped after next count vs some first second = then_changed (without next count) (with_values vs) old
    dropped after some first second
