-- The claim with which a program opens.
use Rattle.std.proofs.Common.{◌≡◌, ℕ, zero, suc, ◌+◌, ◌<◌, ◌≤◌, List, [], ◌∷◌, ◌++◌, true, cond, length, map, position}
use Rattle.std.proofs.Common.{slice_get, take, replicate, Some, None, refl, sym, ap, ◌∙◌, arith}
use Rattle.std.specs.Option.{option_map}
use Rattle.std.specs.Str.{bytes_eq}
use Rattle.std.proofs.lemmas.Bool.{le-leb}
use Rattle.std.proofs.lemmas.List.{length-map, length-replicate}
use Rattle.std.proofs.lemmas.Slice.Eq.{bytes_eq-Decides}
use Rattle.model.specs.declared.places.MethodPlace.{MethodPlace}
use Rattle.model.specs.declared.turns.ClassState.{ClassState}
use Rattle.model.specs.declared.turns.ClassState.TheVariants.{Running}
use Rattle.model.specs.declared.turns.Mark.TheVariants.{Waiting}
use Rattle.model.specs.declared.values.Entry.TheVariants.{Unset}
use Rattle.model.specs.Accepted.Refusals.{refusal_of}
use Rattle.model.specs.ClassListings.{ClassListing}
use Rattle.model.specs.Frames.{Frame, opening_frame, running_frame, with_running, within_limits}
use Rattle.model.specs.Initialisation.{Chain, callers_waiting, claimed_states, first_claim, framed, initializer_frames}
use Rattle.model.specs.Initialisation.{main_frames, opening_frames, opening_states, state_if, waiting}
use Rattle.model.specs.Initialisation.{wants_initialising, with_states}
use Rattle.model.specs.Programs.{code_at, main_in}
use Rattle.model.specs.Worlds.{opening_fits}
use Rattle.model.specs.Classes.Builtin.{builtin_classes}
use Rattle.resolve.specs.Numbers.{class_number, name_of}
use Rattle.resolve.proofs.NumberLemmas.{position-cons}
use Rattle.linking.specs.Initializers.{initializers, is_wanted_in}
use Rattle.loader.specs.Steps.{IsMain}
use Rattle.linking.proofs.MethodTableLemmas.{wanted-class}
use Rattle.instructions.proofs.ListPlaces.{item-at}
use Rattle.instructions.specs.InitialisingByNumbers.{AreClaimed, chain_at, claim_frames, claimed}
use Rattle.instructions.proofs.ChainLemmas.{chain-same}
use Rattle.instructions.proofs.ClaimFrames.{frames-count, running-last, waits-first, with_running-last}

-- ---- the states at first

pub opening-sized : (program : List ClassListing) → length (opening_states program) ≡ length program
opening-sized program = length-map program (λ c. state_if (wants_initialising program c))

take-more : {A B : Type 0} (f : A → B) (xs : List A) (n : ℕ) (y : B) → n < length xs → option_map f (slice_get xs n)
    ≡ Some y
    → take (suc n) (map f xs) ≡ take n (map f xs) ++ y ∷ []
take-more f [] n y inside e = absurd (omega (arith, inside))
take-more f (x ∷ xs) zero y inside e = let same : f x ≡ y = cc in ap (λ y. y ∷ []) same
take-more f (x ∷ xs) (suc n) y inside e = ap (λ ys. f x ∷ ys) (take-more f xs n y (omega (arith, inside)) e)

-- the state of one class more
pub states-next : (program : List ClassListing) (n : ℕ) → n < length program
    → take (n + 1) (opening_states program)
    ≡ take n (opening_states program) ++ state_if (is_wanted_in (initializers program) n) ∷ []
states-next program n inside =
    let at = item-at program n inside in
    let more : n + 1 ≡ suc n = omega arith in
    let state : option_map (λ c. state_if (wants_initialising program c)) (slice_get program n)
    ≡ Some (state_if (is_wanted_in (initializers program) n)) =
    ap (option_map (λ c. state_if (wants_initialising program c))) at.1
    ∙ sym (ap (λ wanted. Some (state_if wanted)) (wanted-class program n at.0 at.1)) in
    ap (λ n. take n (opening_states program)) more
    ∙ take-more (λ c. state_if (wants_initialising program c)) program n
    (state_if (is_wanted_in (initializers program) n)) inside state

-- ---- the claim of main's class

first-place : (name : List ℕ) (names : List (List ℕ)) → position (bytes_eq name) (name ∷ names) ≡ Some 0
first-place name names =
    position-cons (bytes_eq name) name names
    ∙ ap (λ b. cond b (Some 0) (option_map suc (position (bytes_eq name) names))) ((bytes_eq-Decides name name).1 refl)

first-number : (c : ClassListing) (cs : List ClassListing) → class_number (c ∷ cs) c.name ≡ Some 0
first-number c cs = first-place c.name (map name_of cs ++ map name_of builtin_classes)

module _ (program : List ClassListing) (accepted : refusal_of program ≡ None) (locals stack : ℕ)
    (main : IsMain program locals stack) (place : MethodPlace) (placed : main_in program ≡ Some place)
    (few : locals + stack ≤ 4096) (count : ℕ) (above : ClassState)
    (chain : (let found : Chain = record { unused = claimed program 0 count; above = above }
    in chain_at program (opening_states program) 0 ≡ found))
    (there : AreClaimed program 0 count) where
  abbrev opened : Frame
  opened = opening_frame place locals stack

  first-is : first_claim program ≡ claimed program 0 count
  first-is = by program refl where
    by : (cs : List ClassListing) → cs ≡ program → first_claim cs ≡ claimed program 0 count
    by [] e = let none : None ≡ Some place = ap main_in e ∙ placed in cc
    by (c ∷ cs) e =
        ap (λ (c : Chain). c.unused)
        (chain-same (c ∷ cs) (opening_states (c ∷ cs)) (opening-sized (c ∷ cs)) c.name 0 (first-number c cs))
        ∙ ap (λ (p : List ClassListing). (chain_at p (opening_states p) 0).unused) e
        ∙ ap (λ (c : Chain). c.unused) chain

  main-is : main_frames program (main_in program) ≡ opened ∷ []
  main-is =
      let same : main.place ≡ place = one (sym main.place_is ∙ placed) in
      ap (main_frames program) placed
      ∙ ap (framed place) (ap (code_at program) (sym same) ∙ main.code_is)
      ∙ rw (main.locals_are, main.stack_is) refl
    where
      one : {x y : MethodPlace} → Some x ≡ Some y → x ≡ y
      one e = cc

  frames-are : opening_frames program ≡ callers_waiting (opened ∷ initializer_frames program (claimed program 0 count))
  frames-are =
      ap (λ frames. callers_waiting (frames ++ initializer_frames program (first_claim program))) main-is
      ∙ ap (λ classes. callers_waiting (opened ∷ initializer_frames program classes)) first-is

  pub states-are : claimed_states program ≡ with_states (Running 0) (claimed program 0 count) (opening_states program)
  states-are = ap (λ classes. with_states (Running 0) classes (opening_states program)) first-is

  module _ (none : count ≡ 0) where
    nothing : claimed program 0 count ≡ []
    nothing = by (claimed program 0 count) (there.whole ∙ none) where
      by : (cs : List ℕ) → length cs ≡ 0 → cs ≡ []
      by [] e = refl
      by (c ∷ cs) e = absurd (omega (arith, e))

    alone : opening_frames program ≡ opened ∷ []
    alone = frames-are ∙ ap (λ classes. callers_waiting (opened ∷ initializer_frames program classes)) nothing

    pub main-fits : true ≡ opening_fits program
    main-fits =
        let small : length (replicate locals Unset) + stack + 0 ≤ 4096 = omega (
          arith,
          few,
          length-replicate locals Unset,
        ) in
        sym (ap within_limits alone ∙ le-leb (length (replicate locals Unset) + stack + 0) 4096 small)

    pub main-alone : (frames before : List Frame) → before ≡ [] → frames ≡ before ++ opened ∷ []
        → frames ≡ opening_frames program
    main-alone frames before empty is = is ∙ ap (λ fs. fs ++ opened ∷ []) empty ∙ sym alone

    pub states-stay : (states : List ClassState) → states ≡ opening_states program → states ≡ claimed_states program
    states-stay states is =
        is ∙ sym (states-are ∙ ap (λ classes. with_states (Running 0) classes (opening_states program)) nothing)

  module _ (some : 0 < count) where
    pub main-waits : (frames entered marked : List Frame) → frames ≡ [] → entered ≡ frames ++ opened ∷ []
        → marked ≡ with_running entered (record (running_frame entered) { mark = Waiting })
        → marked ++ claim_frames program 0 count ≡ opening_frames program
    main-waits frames entered marked empty is marked_is =
        let entered_is : entered ≡ [] ++ opened ∷ [] = is ∙ ap (λ fs. fs ++ opened ∷ []) empty in
        let marked_waits : marked ≡ waiting opened ∷ [] =
        marked_is ∙ ap (λ (fs : List Frame). with_running fs (waiting (running_frame fs))) entered_is
        ∙ ap (λ (f : Frame). with_running ([] ++ opened ∷ []) (waiting f)) (running-last [] opened)
        ∙ with_running-last [] opened (waiting opened) in
        let many : length (initializer_frames program (claimed program 0 count)) ≡ count =
        frames-count program (claimed program 0 count) accepted there.listed ∙ there.whole in
        ap (λ fs. fs ++ claim_frames program 0 count) marked_waits
        ∙ waits-first opened (initializer_frames program (claimed program 0 count)) (omega (arith, some, many))
        ∙ sym frames-are
