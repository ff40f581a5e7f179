-- The frames of a claim: what is left of them on the way upwards, what they take, and how they are entered.
use Rattle.std.proofs.Common.{◌≡◌, inl, inr, ℕ, zero, suc, ◌+◌, ◌-◌, ◌<◌, ◌≤◌, List, [], ◌∷◌, ◌++◌, Bool, true, false}
use Rattle.std.proofs.Common.{◌&&◌, length, nat_le, nat_lt, set, slice_index_or, Option, Some, None, refl, sym, ap}
use Rattle.std.proofs.Common.{subst, ◌∙◌, arith}
use Rattle.std.proofs.Math.Seq.{set-append_seam}
use Rattle.std.proofs.lemmas.Bool.{le-leb, leb-true}
use Rattle.std.proofs.lemmas.Bool.Decides.{leb_tells}
use Rattle.std.proofs.lemmas.List.{append_assoc, length-append, length-replicate, length-set}
use Rattle.model.specs.declared.places.MethodPlace.{MethodPlace}
use Rattle.model.specs.declared.turns.ClassState.{ClassState}
use Rattle.model.specs.declared.turns.Mark.TheVariants.{Waiting}
use Rattle.model.specs.declared.values.Entry.TheVariants.{Unset}
use Rattle.model.specs.Accepted.Refusals.{refusal_of}
use Rattle.model.specs.ClassListings.{ClassListing}
use Rattle.model.specs.Frames.{Frame, has_room_for, no_frame, opening_frame, running_frame, units_of_frames}
use Rattle.model.specs.Frames.{with_running, within_limits}
use Rattle.model.specs.Initialisation.{callers_waiting, initializer_frames, initializer_place, started_at, waiting}
use Rattle.model.specs.Initialisation.{with_states}
use Rattle.linking.specs.declared.initializers.ClassInitializer.{ClassInitializer}
use Rattle.linking.specs.ClassTables.{class_tables, superclass_in}
use Rattle.linking.specs.Initializers.{initializers, place_in}
use Rattle.linking.proofs.MethodTableLemmas.{initializer-place}
use Rattle.instructions.specs.InitialisingByNumbers.{AreBelow, AreClaimed, claim_frames, claimed, classes_upwards}
use Rattle.instructions.proofs.InitializerBodies.{initializer-there}

-- ---- what is left of a claim

module _ (program : List ClassListing) where
  abbrev pub rest_of : ℕ → Option ℕ → List ℕ
  rest_of left next = classes_upwards (class_tables program) left next

  -- so many classes are left from the next on, all of the program
  pub record AreLeft (left : ℕ) (next : Option ℕ) : Type 0 where
    pub whole : length (rest_of left next) ≡ left
    pub listed : AreBelow (length program) (rest_of left next)

  pub left-begins : (class count : ℕ) → AreClaimed program class count → AreLeft (count - 0) (Some class)
  left-begins class count h =
      let same : count ≡ count - 0 = omega arith in
      subst (λ (left : ℕ). AreLeft left (Some class)) same (record { whole = h.whole; listed = h.listed })

  pub rest-over : (left : ℕ) (next : Option ℕ) → left ≡ 0 → rest_of left next ≡ []
  unfolding classes_upwards
  rest-over zero next e = refl
  rest-over (suc left) next e = absurd (omega (arith, e))

  module _ (passed count : ℕ) (next : Option ℕ) (inside : passed < count) (h : AreLeft (count - passed) next) where
    one-more : count - passed ≡ suc (count - (passed + 1))
    one-more = omega (arith, inside)

    left-one : AreLeft (suc (count - (passed + 1))) next
    left-one = subst (λ (left : ℕ). AreLeft left next) one-more h

    pub left-none : next ≡ None → ⊥
    unfolding classes_upwards
    left-none e =
        let none : length (rest_of (suc (count - (passed + 1))) None) ≡ suc (count - (passed + 1)) =
        subst (λ (next : Option ℕ). length (rest_of (suc (count - (passed + 1))) next) ≡ suc (count - (passed + 1))) e
        left-one.whole in
        omega (arith, none)

    module _ (class : ℕ) (e : next ≡ Some class) where
      abbrev pub further : List ℕ
      further = rest_of (count - (passed + 1)) (superclass_in (class_tables program) class)

      -- what is left begins with the next class
      pub left-is : rest_of (count - passed) next ≡ class ∷ further
      unfolding classes_upwards
      left-is = ap (λ left. rest_of left next) one-more ∙ ap (rest_of (suc (count - (passed + 1)))) e

      pub left-class : class < length program
      left-class = (subst (AreBelow (length program)) left-is h.listed).0

      pub left-further : (above : Option ℕ) → above ≡ superclass_in (class_tables program) class
          → AreLeft (count - (passed + 1)) above
      left-further above above_is =
          let cut : length (class ∷ further) ≡ count - passed = ap (λ (cs : List ℕ). length cs) (sym left-is) ∙ h.whole
          in
          subst (AreLeft (count - (passed + 1))) (sym above_is) (record {
            whole = omega (arith, cut, inside);
            listed = (subst (AreBelow (length program)) left-is h.listed).1;
          })

-- ---- the frames of initializers

pub starts-with : (program : List ClassListing) (class : ℕ) (classes : List ℕ) (locals stack : ℕ)
    → started_at program (initializer_place program class)
    ≡ opening_frame (initializer_place program class) locals stack ∷ []
    → initializer_frames program (class ∷ classes)
    ≡ opening_frame (initializer_place program class) locals stack ∷ initializer_frames program classes
starts-with program class classes locals stack e = ap (λ frames. frames ++ initializer_frames program classes) e

pub frames-count : (program : List ClassListing) (classes : List ℕ) → refusal_of program ≡ None
    → AreBelow (length program) classes → length (initializer_frames program classes) ≡ length classes
frames-count program [] accepted below = refl
frames-count program (class ∷ classes) accepted below =
    let there = initializer-there program class accepted below.0 in
    ap (λ (fs : List Frame). length fs) (starts-with program class classes there.locals there.stack there.starts)
    ∙ ap suc (frames-count program classes accepted below.1)

pub units-waiting : (frames : List Frame) → units_of_frames (callers_waiting frames) ≡ units_of_frames frames
units-waiting [] = refl
units-waiting (f ∷ []) = refl
units-waiting (f ∷ g ∷ gs) = ap (λ n. length f.locals + f.room + n) (units-waiting (g ∷ gs))

pub length-waiting : (frames : List Frame) → length (callers_waiting frames) ≡ length frames
length-waiting [] = refl
length-waiting (f ∷ []) = refl
length-waiting (f ∷ g ∷ gs) = ap suc (length-waiting (g ∷ gs))

pub units-append : (xs ys : List Frame) → units_of_frames (xs ++ ys) ≡ units_of_frames xs + units_of_frames ys
units-append [] ys = omega arith
units-append (x ∷ xs) ys = let e = units-append xs ys in omega (arith, e)

units-opening : (place : MethodPlace) (locals stack : ℕ) (frames : List Frame)
    → units_of_frames (opening_frame place locals stack ∷ frames) ≡ locals + stack + units_of_frames frames
units-opening place locals stack frames = let e = length-replicate locals Unset in omega (arith, e)

-- ---- lists whose last frame changes

last-got : (frames : List Frame) (f other : Frame) → slice_index_or (frames ++ f ∷ []) (length frames) other ≡ f
last-got [] f other = refl
last-got (x ∷ xs) f other = last-got xs f other

length-last : (frames : List Frame) (f : Frame) → length (frames ++ f ∷ []) - 1 ≡ length frames
length-last frames f = let e = length-append frames (f ∷ []) in omega (arith, e)

pub running-last : (frames : List Frame) (f : Frame) → running_frame (frames ++ f ∷ []) ≡ f
running-last frames f =
    ap (λ n. slice_index_or (frames ++ f ∷ []) n no_frame) (length-last frames f) ∙ last-got frames f no_frame

pub with_running-last : (frames : List Frame) (f g : Frame) → with_running (frames ++ f ∷ []) g ≡ frames ++ g ∷ []
with_running-last frames f g =
    ap (λ n. set (frames ++ f ∷ []) n g) (length-last frames f) ∙ set-append_seam frames f [] g

pub waits-none : (f : Frame) (fs : List Frame) → length fs ≡ 0 → f ∷ callers_waiting fs ≡ callers_waiting (f ∷ fs)
waits-none f [] e = refl
waits-none f (g ∷ gs) e = absurd (omega (arith, e))

pub waits-first : (f : Frame) (fs : List Frame) → 0 < length fs
    → waiting f ∷ callers_waiting fs ≡ callers_waiting (f ∷ fs)
waits-first f [] e = absurd (omega (arith, e))
waits-first f (g ∷ gs) e = refl

both-true : (a b : Bool) → (a && b) ≡ true → (a ≡ true) × (b ≡ true)
both-true true b e = (refl, e)
both-true false b e = cc

and-true : (a b : Bool) → a ≡ true → b ≡ true → (a && b) ≡ true
and-true true b p q = q
and-true false b p q = p

-- what is left takes with what was counted all units
module _ (program : List ClassListing) (passed count : ℕ) (next : Option ℕ) (inside : passed < count)
    (h : AreLeft program (count - passed) next) (class : ℕ) (e : next ≡ Some class) (locals stack : ℕ)
    (starts : started_at program (initializer_place program class)
    ≡ opening_frame (initializer_place program class) locals stack ∷ [])
    (above : Option ℕ) (above_is : above ≡ superclass_in (class_tables program) class) where
  abbrev opened : Frame
  opened = opening_frame (initializer_place program class) locals stack

  abbrev later : List Frame
  later = initializer_frames program (rest_of program (count - (passed + 1)) above)

  frames-left : initializer_frames program (rest_of program (count - passed) next) ≡ opened ∷ later
  frames-left =
      ap (initializer_frames program) (left-is program passed count next inside h class e)
      ∙ starts-with program class (further program passed count next inside h class e) locals stack starts
      ∙ ap (λ above. opened ∷ initializer_frames program (rest_of program (count - (passed + 1)) above)) (sym above_is)

  pub units-next : (units whole : ℕ)
      → units + units_of_frames (initializer_frames program (rest_of program (count - passed) next)) ≡ whole
      → units + (locals + stack) + units_of_frames later ≡ whole
  units-next units whole all =
      let now : units_of_frames (initializer_frames program (rest_of program (count - passed) next))
      ≡ locals + stack + units_of_frames later =
      ap units_of_frames frames-left ∙ units-opening (initializer_place program class) locals stack later in
      omega (arith, all, now)

  -- ---- and is entered

  module _ (accepted : refusal_of program ≡ None) (frames whole : List Frame)
      (all : frames ++ callers_waiting (initializer_frames program (rest_of program (count - passed) next)) ≡ whole)
    where
      whole-is : frames ++ callers_waiting (opened ∷ later) ≡ whole
      whole-is = ap (λ fs. frames ++ callers_waiting fs) (sym frames-left) ∙ all

      few-later : length later ≡ count - (passed + 1)
      few-later =
          let left = left-further program passed count next inside h class e above above_is in
          frames-count program (rest_of program (count - (passed + 1)) above) accepted left.listed ∙ left.whole

      pub has-room : within_limits whole ≡ true → has_room_for frames locals stack ≡ true
      has-room fits =
          let parts = both-true (nat_le (length whole) 256) (nat_le (units_of_frames whole) 4096) fits in
          let few = leb-true (length whole) 256 parts.0 in
          let small = leb-true (units_of_frames whole) 4096 parts.1 in
          let long : length frames + suc (length later) ≡ length whole =
          ap (λ n. length frames + n) (sym (length-waiting (opened ∷ later)))
          ∙ sym (length-append frames (callers_waiting (opened ∷ later))) ∙ ap (λ (fs : List Frame). length fs) whole-is
          in
          let wide : units_of_frames frames + (locals + stack + units_of_frames later) ≡ units_of_frames whole =
          ap (λ n. units_of_frames frames + n)
          (sym (units-waiting (opened ∷ later) ∙ units-opening (initializer_place program class) locals stack later))
          ∙ sym (units-append frames (callers_waiting (opened ∷ later))) ∙ ap units_of_frames whole-is in
          and-true (nat_lt (length frames) 256) (nat_le (units_of_frames frames + locals + stack) 4096)
          (le-leb (suc (length frames)) 256 (omega (arith, few, long)))
          (le-leb (units_of_frames frames + locals + stack) 4096 (omega (arith, small, wide)))

      enters-one : count ≤ passed + 1 → (frames ++ opened ∷ []) ++ callers_waiting later ≡ whole
      enters-one last =
          append_assoc frames (opened ∷ []) (callers_waiting later)
          ∙ ap (λ fs. frames ++ fs) (waits-none opened later (omega (arith, few-later, last))) ∙ whole-is

      enters-waiting : passed + 1 < count → (after : List Frame)
          → after ≡ with_running (frames ++ opened ∷ []) (record (running_frame (frames ++ opened ∷ []))
          { mark = Waiting })
          → after ++ callers_waiting later ≡ whole
      enters-waiting more after is =
          ap (λ fs. fs ++ callers_waiting later)
          (is ∙ ap (λ (f : Frame). with_running (frames ++ opened ∷ []) (waiting f)) (running-last frames opened)
          ∙ with_running-last frames opened (waiting opened))
          ∙ append_assoc frames (waiting opened ∷ []) (callers_waiting later)
          ∙ ap (λ fs. frames ++ fs) (waits-first opened later (omega (arith, few-later, more))) ∙ whole-is

      pub enters-last : (place : MethodPlace) → place ≡ initializer_place program class → (after : List Frame)
          → after ≡ frames ++ opening_frame place locals stack ∷ [] → count ≤ passed + 1
          → after ++ callers_waiting later ≡ whole
      enters-last place placed after is last =
          ap (λ fs. fs ++ callers_waiting later)
          (is ∙ ap (λ place. frames ++ opening_frame place locals stack ∷ []) placed)
          ∙ enters-one last

      pub enters-more : (place : MethodPlace) → place ≡ initializer_place program class → (entered after : List Frame)
          → entered ≡ frames ++ opening_frame place locals stack ∷ []
          → after ≡ with_running entered (record (running_frame entered) { mark = Waiting }) → passed + 1 < count
          → after ++ callers_waiting later ≡ whole
      enters-more place placed entered after is marked more =
          let same : entered ≡ frames ++ opened ∷ [] =
          is ∙ ap (λ place. frames ++ opening_frame place locals stack ∷ []) placed in
          enters-waiting more after
          (marked ∙ ap (λ (fs : List Frame). with_running fs (waiting (running_frame fs))) same)

-- the place of an initializer, as the tables are read
pub placed-at : (program : List ClassListing) (class : ℕ) (places : List ClassInitializer) (place : MethodPlace)
    → place ≡ place_in places class → places ≡ initializers program → place ≡ initializer_place program class
placed-at program class places place is places_are =
    is ∙ ap (λ places. place_in places class) places_are ∙ initializer-place program class

pub units-over : (program : List ClassListing) (class count left : ℕ) (next : Option ℕ) (units : ℕ) → left ≡ 0
    → units + units_of_frames (initializer_frames program (rest_of program left next))
    ≡ units_of_frames (initializer_frames program (claimed program class count))
    → units ≡ units_of_frames (claim_frames program class count)
units-over program class count left next units none all =
    let over : units_of_frames (initializer_frames program (rest_of program left next)) ≡ 0 =
    ap (λ cs. units_of_frames (initializer_frames program cs)) (rest-over program left next none) in
    let same : units ≡ units_of_frames (initializer_frames program (claimed program class count)) = omega (
      arith,
      all,
      over,
    ) in
    same ∙ sym (units-waiting (initializer_frames program (claimed program class count)))

-- ---- whether a claim fits

module _ (program : List ClassListing) (class count : ℕ) (accepted : refusal_of program ≡ None)
    (h : AreClaimed program class count) (frames : List Frame) (units : ℕ)
    (all : units ≡ units_of_frames (claim_frames program class count)) where
  abbrev whole : List Frame
  whole = frames ++ claim_frames program class count

  how-many : length whole ≡ length frames + count
  how-many =
      length-append frames (claim_frames program class count)
      ∙ ap (λ n. length frames + n) (length-waiting (initializer_frames program (claimed program class count))
      ∙ frames-count program (claimed program class count) accepted h.listed ∙ h.whole)

  how-wide : units_of_frames whole ≡ units_of_frames frames + units
  how-wide = units-append frames (claim_frames program class count) ∙ ap (λ n. units_of_frames frames + n) (sym all)

  over : (a b : ℕ) → b < a → nat_le a b ≡ false
  over a b more =
      elim (leb_tells a b) [
        | inl t ↦ absurd (omega (arith, t.1, more))
        | inr t ↦ t.0
      ]

  no-first : (a b : Bool) → a ≡ false → (a && b) ≡ false
  no-first true b e = cc
  no-first false b e = refl

  no-second : (a b : Bool) → b ≡ false → (a && b) ≡ false
  no-second true b e = e
  no-second false b e = refl

  pub too-wide : 4096 < units → within_limits whole ≡ false
  too-wide more =
      no-second (nat_le (length whole) 256) (nat_le (units_of_frames whole) 4096)
      (over (units_of_frames whole) 4096 (omega (arith, how-wide, more)))

  pub too-many : 256 < length frames + count → within_limits whole ≡ false
  too-many more =
      no-first (nat_le (length whole) 256) (nat_le (units_of_frames whole) 4096)
      (over (length whole) 256 (omega (arith, how-many, more)))

  pub fits-if : length frames + count ≤ 256 → 0 < count → has_room_for frames units 0 ≡ within_limits whole
  fits-if few some =
      let wide : units_of_frames frames + units + 0 ≡ units_of_frames whole = omega (arith, how-wide) in
      ap (λ b. b && nat_le (units_of_frames frames + units + 0) 4096)
      (le-leb (suc (length frames)) 256 (omega (arith, few, some))
      ∙ sym (le-leb (length whole) 256 (omega (arith, few, how-many))))
      ∙ ap (λ n. nat_le (length whole) 256 && nat_le n 4096) wide

-- ---- states

pub length-with_states : (state : ClassState) (classes : List ℕ) (states : List ClassState)
    → length (with_states state classes states) ≡ length states
length-with_states state [] states = refl
length-with_states state (c ∷ cs) states =
    length-with_states state cs (set states c state) ∙ length-set states c state

module _ (program : List ClassListing) (state : ClassState) (whole : List ClassState) where
  -- once what is left comes into the state, all did
  abbrev pub AreSet : ℕ → Option ℕ → List ClassState → Type 0
  AreSet left next states = with_states state (rest_of program left next) states ≡ whole

  pub set-over : (left : ℕ) (next : Option ℕ) (states : List ClassState) → left ≡ 0 → AreSet left next states
      → states ≡ whole
  set-over left next states none h = sym (ap (λ cs. with_states state cs states) (rest-over program left next none)) ∙ h

  none-left : (left : ℕ) → rest_of program left None ≡ []
  unfolding classes_upwards
  none-left zero = refl
  none-left (suc left) = refl

  pub set-none : (left further : ℕ) (next above : Option ℕ) (states : List ClassState) → next ≡ None → above ≡ next
      → AreSet left next states → AreSet further above states
  set-none left further next above states none same h =
      ap (λ next. with_states state (rest_of program further next) states) (same ∙ none)
      ∙ ap (λ cs. with_states state cs states) (none-left further ∙ sym (none-left left))
      ∙ ap (λ next. with_states state (rest_of program left next) states) (sym none) ∙ h

  pub set-next : (passed count : ℕ) (next above : Option ℕ) (class : ℕ) (states : List ClassState) → passed < count
      → next ≡ Some class → above ≡ superclass_in (class_tables program) class → AreSet (count - passed) next states
      → AreSet (count - (passed + 1)) above (set states class state)
  unfolding classes_upwards
  set-next passed count next above class states inside is above_is h =
      let left : count - passed ≡ suc (count - (passed + 1)) = omega (arith, inside) in
      ap (λ above. with_states state (rest_of program (count - (passed + 1)) above) (set states class state)) above_is
      ∙ sym (ap (λ next. with_states state (rest_of program (suc (count - (passed + 1))) next) states) is)
      ∙ sym (ap (λ left. with_states state (rest_of program left next) states) left) ∙ h
