-- whether the units of frames are within a number
use Rattle.std.proofs.Common.{◌≡◌, ℕ, ◌+◌, ◌-◌, ◌<◌, ◌≤◌, Bool, true, false, ◌&&◌, List, [], ◌∷◌, ◌++◌, length, get_or}
use Rattle.std.proofs.Common.{drop, nat_le, Option, Some, None, refl, ap, sym, ◌∙◌, arith}
use Rattle.std.proofs.lemmas.List.{drop_more, drop_all, length-append}
use Rattle.std.proofs.lemmas.Bool.{le-leb, lt-leb}
use Rattle.std.proofs.lemmas.Bool.Decides.{nat_tests}
use Rattle.model.specs.Frames.{Frame, units_of_frames}
use Rattle.ideal_run.specs.Rooms.{left_if, room_left}

-- ---- what is left of some room

has : (units room : ℕ) → units ≤ room → left_if units room (nat_le units room) ≡ Some (room - units)
has units room h = ap (left_if units room) (le-leb units room h)

lacks : (units room : ℕ) → room < units → left_if units room (nat_le units room) ≡ None
lacks units room h = ap (left_if units room) (lt-leb units room h)

split : (frames : List Frame) (i : ℕ) (f : Frame) → f ≡ get_or frames i f → i < length frames
    → units_of_frames (drop i frames) ≡ length f.locals + f.room + units_of_frames (drop (i + 1) frames)
split frames i f is h =
    ap units_of_frames (drop_more frames i f h)
    ∙ ap (λ (g : Frame). length g.locals + g.room + units_of_frames (drop (i + 1) frames)) (sym is)

same_room : (units less room left : ℕ) → less ≤ room → left ≡ room - less
    → left_if (less + units) room (nat_le (less + units) room) ≡ left_if units left (nat_le units left)
same_room units less room left h is = by (nat_le units left) refl where
  by : (b : Bool) → nat_le units left ≡ b → left_if (less + units) room (nat_le (less + units) room)
      ≡ left_if units left (nat_le units left)
  by true e =
      let fits : less + units ≤ room = grind (arith, nat_tests) in
      has (less + units) room fits ∙ (ap Some (omega arith) ∙ sym (has units left (omega arith)))
  by false e =
      let over : room < less + units = grind (arith, nat_tests) in
      lacks (less + units) room over ∙ sym (lacks units left (omega arith))

-- one frame more has its units
pub room_left-more : (frames : List Frame) (i : ℕ) (f : Frame) (room : ℕ) → f ≡ get_or frames i f → i < length frames
    → length f.locals ≤ room → f.room ≤ room - length f.locals → room_left (drop i frames) room
    ≡ room_left (drop (i + 1) frames) (room - length f.locals - f.room)
room_left-more frames i f room is h locals units =
    ap (λ (u : ℕ). left_if u room (nat_le u room)) (split frames i f is h)
    ∙ same_room (units_of_frames (drop (i + 1) frames)) (length f.locals + f.room) room
    (room - length f.locals - f.room) (omega arith) (omega arith)

pub room_left-no_locals : (frames : List Frame) (i : ℕ) (f : Frame) (room : ℕ) → f ≡ get_or frames i f
    → i < length frames → room < length f.locals → room_left (drop i frames) room ≡ None
room_left-no_locals frames i f room is h over =
    ap (λ (u : ℕ). left_if u room (nat_le u room)) (split frames i f is h)
    ∙ lacks (length f.locals + f.room + units_of_frames (drop (i + 1) frames)) room (omega arith)

pub room_left-no_room : (frames : List Frame) (i : ℕ) (f : Frame) (room : ℕ) → f ≡ get_or frames i f → i < length frames
    → length f.locals ≤ room → room - length f.locals < f.room → room_left (drop i frames) room ≡ None
room_left-no_room frames i f room is h locals over =
    ap (λ (u : ℕ). left_if u room (nat_le u room)) (split frames i f is h)
    ∙ lacks (length f.locals + f.room + units_of_frames (drop (i + 1) frames)) room (omega arith)

pub room_left-all : (frames : List Frame) (i : ℕ) (room : ℕ) → length frames ≤ i → room_left (drop i frames) room
    ≡ Some room
room_left-all frames i room h =
    ap (λ (l : List Frame). room_left l room) (drop_all i frames h) ∙ (has 0 room (omega arith) ∙ ap Some (omega arith))

-- ---- what a room that is left tells

left-units : (units room left : ℕ) → left_if units room (nat_le units room) ≡ Some left → (units ≤ room)
    × (left ≡ room - units)
left-units units room left h = by (nat_le units room) refl where
  by : (b : Bool) → nat_le units room ≡ b → (units ≤ room) × (left ≡ room - units)
  by true e =
      let fits : units ≤ room = grind (arith, nat_tests) in
      let reported : Some (room - units) ≡ Some left = sym (has units room fits) ∙ h in
      (fits, cc)
  by false e =
      let over : room < units = grind (arith, nat_tests) in
      let reported : None ≡ Some left = sym (lacks units room over) ∙ h in
      absurd (cc)

no-units : (units room : ℕ) → left_if units room (nat_le units room) ≡ None → room < units
no-units units room h = by (nat_le units room) refl where
  by : (b : Bool) → nat_le units room ≡ b → room < units
  by true e =
      let fits : units ≤ room = grind (arith, nat_tests) in
      let reported : Some (room - units) ≡ None = sym (has units room fits) ∙ h in
      absurd (cc)
  by false e = grind (arith, nat_tests)

units-append : (fs gs : List Frame) → units_of_frames (fs ++ gs) ≡ units_of_frames fs + units_of_frames gs
units-append [] gs = omega arith
units-append (f ∷ fs) gs = let h = units-append fs gs in omega arith

-- ---- whether another frame has room

pub room-some : (frames : List Frame) (locals stack left : ℕ) → room_left frames 4096 ≡ Some left
    → nat_le (locals + stack) left ≡ nat_le (units_of_frames frames + locals + stack) 4096
room-some frames locals stack left h =
    let tells = left-units (units_of_frames frames) 4096 left h in
    let fits : units_of_frames frames ≤ 4096 = tells.0 in
    let is : left ≡ 4096 - units_of_frames frames = tells.1 in
    grind (arith, nat_tests)

pub room-none : (frames : List Frame) (locals stack : ℕ) → room_left frames 4096 ≡ None
    → nat_le (units_of_frames frames + locals + stack) 4096 ≡ false
room-none frames locals stack h =
    let over : 4096 < units_of_frames frames = no-units (units_of_frames frames) 4096 h in
    grind (arith, nat_tests)

pub both-some : (fs gs : List Frame) (left rest : ℕ) → room_left fs 4096 ≡ Some left → room_left gs left ≡ Some rest
    → nat_le (units_of_frames (fs ++ gs)) 4096 ≡ true
both-some fs gs left rest h k =
    let a = left-units (units_of_frames fs) 4096 left h in
    let b = left-units (units_of_frames gs) left rest k in
    let fits : units_of_frames fs ≤ 4096 = a.0 in
    let is : left ≡ 4096 - units_of_frames fs = a.1 in
    let fits_too : units_of_frames gs ≤ left = b.0 in
    le-leb (units_of_frames (fs ++ gs)) 4096 (rw (units-append fs gs) (omega arith))

pub both-second : (fs gs : List Frame) (left : ℕ) → room_left fs 4096 ≡ Some left → room_left gs left ≡ None
    → nat_le (units_of_frames (fs ++ gs)) 4096 ≡ false
both-second fs gs left h k =
    let a = left-units (units_of_frames fs) 4096 left h in
    let fits : units_of_frames fs ≤ 4096 = a.0 in
    let is : left ≡ 4096 - units_of_frames fs = a.1 in
    let over : left < units_of_frames gs = no-units (units_of_frames gs) left k in
    lt-leb (units_of_frames (fs ++ gs)) 4096 (rw (units-append fs gs) (omega arith))

pub both-first : (fs gs : List Frame) → room_left fs 4096 ≡ None → nat_le (units_of_frames (fs ++ gs)) 4096 ≡ false
both-first fs gs h =
    let over : 4096 < units_of_frames fs = no-units (units_of_frames fs) 4096 h in
    lt-leb (units_of_frames (fs ++ gs)) 4096 (rw (units-append fs gs) (omega arith))

pub ruleset units = (
  room_left-more,
  room_left-no_locals,
  room_left-no_room,
  room_left-all,
  room-some,
  room-none,
  both-some,
  both-second,
  both-first,
  length-append,
)
