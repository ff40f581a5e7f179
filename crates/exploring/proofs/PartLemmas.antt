use Rattle.std.proofs.Common.{◌≡◌, ◌⊎◌, inl, inr, ℕ, zero, suc, ◌+◌, ◌-◌, ◌<◌, arith, List, [], ◌∷◌, ◌++◌, length, map, drop}
use Rattle.std.proofs.Common.{slice_get, Bool, false, Some, None, refl, sym, ◌∙◌, ap, subst}
use Rattle.std.proofs.lemmas.Bool.{cases_lt}
use Rattle.std.proofs.lemmas.List.{length-map}
use Rattle.model.specs.declared.journals.Limits.{Limits}
use Rattle.model.specs.declared.turns.Actor.TheVariants.{Thread}
use Rattle.model.specs.ClassListings.{ClassListing}
use Rattle.model.specs.Effects.{Choice}
use Rattle.model.specs.Effects.Choice.{NewObject}
use Rattle.model.specs.Table.Next.{next}
use Rattle.model.specs.Turns.{refusal}
use Rattle.model.specs.Worlds.{World}
use Rattle.model.proofs.CollectorLemmas.Running.{unfaulted}
use Rattle.exploration.specs.ClosedLists.{ComesTo, IsAmong, IsWitnessed, ideal_after}
use Rattle.exploration.specs.ClosedLists.ComesTo.{begins, turns}
use Rattle.exploration.specs.Observations.{IsHalted, Observed, observed}
use Rattle.exploration.specs.Outcomes.{IsOutcome, TellsOutcomes}
use Rattle.exploration.specs.Reduction.GoesAhead.{stays}
use Rattle.exploration.specs.Representation.{Represents, uncounted}
use Rattle.exploration.proofs.CanonicalForms.{turns_make_all}
use Rattle.exploration.proofs.ClosedLists.{same_refusal, same_thread_refusal}
use Rattle.exploration.proofs.Composition.{represents_image}
use Rattle.exploration.proofs.Observations.{observed_same}
use Rattle.exploration.proofs.Outcomes.{halted_uncounted, observed_counted, tells_more, tells_outcomes}
use Rattle.exploration.proofs.ReducedRuns.{HoldsAhead, observed_of_held, turn_leads}
use Rattle.exploration.proofs.Turns.{turn_images}
use Rattle.exploring.specs.Canonical.{canonical}
use Rattle.exploring.specs.declared.explored.Move.{Move}
use Rattle.exploring.specs.Expansion.{way_to, world_of}
use Rattle.exploring.specs.Explorations.{AreSoundAfter, BeginsWith, Exploration, Finding, HasAll, IsOnItsWay, outcome_of}
use Rattle.exploring.specs.Origins.{AreTurns, pair_in, pairs_in, start_of, trail}
use Rattle.exploring.specs.Parts.{AreParts, moves_of, rests, ways}
use Rattle.exploring.proofs.CanonicalLemmas.{is_represented}
use Rattle.exploring.proofs.ExpansionLemmas.{below}

-- what follows one of the parts is all that follows the first turns

-- ---- lists

record Mapped {A B : Type 0} (f : A → B) (xs : List A) (k : ℕ) (y : B) : Type 0 where
  item : A
  there : slice_get xs k ≡ Some item
  is : f item ≡ y

mapped : {A B : Type 0} (f : A → B) (xs : List A) (k : ℕ) (y : B) → slice_get (map f xs) k ≡ Some y → Mapped f xs k y
mapped f [] k y e = absurd (cc)
mapped f (x ∷ xs) zero y e = record { item = x; there = refl; is = cc }
mapped f (x ∷ xs) (suc k) y e =
    let m = mapped f xs k y e in record { item = Mapped.item m; there = Mapped.there m; is = Mapped.is m }

map_at : {A B : Type 0} (f : A → B) (xs : List A) (k : ℕ) (x : A) → slice_get xs k ≡ Some x
    → slice_get (map f xs) k ≡ Some (f x)
map_at f [] k x e = absurd (cc)
map_at f (y ∷ ys) zero x e = (let same : y ≡ x = cc in ap (λ z. Some (f z)) same)
map_at f (y ∷ ys) (suc k) x e = map_at f ys k x e

behind : {A : Type 0} (xs ys : List A) (k : ℕ) → slice_get (xs ++ ys) (length xs + k) ≡ slice_get ys k
behind [] ys k = (let same : 0 + k ≡ k = omega arith in ap (slice_get ys) same)
behind (x ∷ xs) ys k =
    let more : suc (length xs) + k ≡ suc (length xs + k) = omega arith in
    ap (slice_get (x ∷ (xs ++ ys))) more ∙ behind xs ys k

dropped : {A : Type 0} (xs : List A) (n k : ℕ) → slice_get (drop n xs) k ≡ slice_get xs (n + k)
dropped xs zero k = (let same : k ≡ 0 + k = omega arith in ap (slice_get xs) same)
dropped [] (suc n) k = refl
dropped (x ∷ xs) (suc n) k =
    let more : suc (n + k) ≡ suc n + k = omega arith in dropped xs n k ∙ ap (slice_get (x ∷ xs)) more

-- either of two lists one after the other
split_at : {A : Type 0} (xs ys : List A) (k : ℕ) (x : A) → slice_get (xs ++ ys) k ≡ Some x
    → (slice_get xs k ≡ Some x) ⊎ ((j : ℕ) × (slice_get ys j ≡ Some x))
split_at [] ys k x e = inr (k, e)
split_at (y ∷ xs) ys zero x e = inl e
split_at (y ∷ xs) ys (suc k) x e = split_at xs ys k x e

module _ (program : List ClassListing) (limits : Limits) (no_room : Bool) where
  -- ---- two worlds that one state stands for

  record Twins (v u : World) : Type 0 where
    state : World
    left : Represents state v
    right : Represents state u

  twins_halt : (v u : World) → Twins v u → IsHalted program limits v → IsHalted program limits u
  twins_halt v u s halted t e = halted t (sym (same_thread_refusal program limits (Twins.state s) v (Twins.left s) t)
      ∙ same_thread_refusal program limits (Twins.state s) u (Twins.right s) t ∙ e)

  twins_show : (v u : World) → Twins v u → observed program u ≡ observed program v
  twins_show v u s = sym (observed_same program limits (Twins.state s) u (Twins.right s))
      ∙ observed_same program limits (Twins.state s) v (Twins.left s)

  twins_allow : (v u : World) → Twins v u → (t : ℕ) → refusal program limits v (Thread t) ≡ None
      → refusal program limits u (Thread t) ≡ None
  twins_allow v u s t e = sym (same_refusal program limits (Twins.state s) u (Twins.right s) (Thread t))
      ∙ same_refusal program limits (Twins.state s) v (Twins.left s) (Thread t) ∙ e

  twins_move : (v u : World) → Twins v u → (t : ℕ) (choice : Choice) → refusal program limits v (Thread t) ≡ None
      → Twins (next program v t choice).after (next program u t choice).after
  twins_move v u s t choice e =
      let y = Twins.state s in
      let after = (next program y t choice).after in
      let clean = unfaulted program limits v t e in
      let other = unfaulted program limits u t (twins_allow v u s t e) in
      let r = is_represented after (turns_make_all program y v t choice (Twins.left s) clean) in
      record {
        state = canonical after;
        left = represents_image (canonical after) after (next program v t choice).after r
            (turn_images program y v (Twins.left s) t choice clean);
        right = represents_image (canonical after) after (next program u t choice).after r
            (turn_images program y u (Twins.right s) t choice other);
      }

  -- ---- a world whose like follows a start of which all is told

  module _ (outcomes : List Observed) where
    record IsTold (v : World) : Type 0 where
      start : World
      told : TellsOutcomes program limits no_room start outcomes
      world : World
      comes : ComesTo program limits no_room start world
      twins : Twins v world

    told_on : (v : World) → IsTold v → (t : ℕ) (choice : Choice) → (no_room ≡ false → choice ≡ NewObject)
        → refusal program limits v (Thread t) ≡ None → IsTold (next program v t choice).after
    told_on v s t choice room e =
        let u = IsTold.world s in
        record {
          start = IsTold.start s;
          told = IsTold.told s;
          world = (next program u t choice).after;
          comes = turns u t choice (IsTold.comes s) room (twins_allow v u (IsTold.twins s) t e);
          twins = twins_move v u (IsTold.twins s) t choice e;
        }

    told_at : (v : World) → IsTold v → IsHalted program limits v → IsOutcome outcomes (observed program v)
    told_at v s halted = subst (IsOutcome outcomes) (twins_show v (IsTold.world s) (IsTold.twins s))
        ((IsTold.told s).worlds (IsTold.world s) (IsTold.comes s) (twins_halt v (IsTold.world s) (IsTold.twins s) halted))

    begins_told : (p : List Move) (x v : World) → TellsOutcomes program limits no_room (start_of program limits p) outcomes
        → IsWitnessed program limits (pairs_in p) x → Represents x v → IsTold v
    begins_told p x v told met r = record {
      start = start_of program limits p;
      told = told;
      world = start_of program limits p;
      comes = begins;
      twins = record { state = x; left = r; right = met.represents };
    }

  -- ---- runs that came to rest

  module _ (first : List Move) (found : List Finding) (sound : AreSoundAfter program limits first found) where
    rests_turn : (k : ℕ) (p : List Move) → slice_get (rests found) k ≡ Some p → AreTurns program limits p
    rests_turn k p e =
        let m = mapped moves_of found k p e in
        let real = sound.real k (Mapped.item m) (Mapped.there m) in
        subst (AreTurns program limits) (Mapped.is m) (real.made ∙ length-map (Mapped.item m).moves pair_in)

    rests_begin : (k : ℕ) (p : List Move) → slice_get (rests found) k ≡ Some p → BeginsWith first p
    rests_begin k p e =
        let m = mapped moves_of found k p e in
        subst (BeginsWith first) (Mapped.is m) (sound.begin k (Mapped.item m) (Mapped.there m))

    -- their outcomes are told
    rests_told : (outcomes : List Observed)
        → ((k : ℕ) (p : List Move) → slice_get (rests found) k ≡ Some p
        → TellsOutcomes program limits no_room (start_of program limits p) outcomes)
        → (o : Observed) → IsOutcome (map outcome_of found) o → IsOutcome outcomes o
    rests_told outcomes told o there =
        let m = mapped outcome_of found there.0 o there.1 in
        let f = Mapped.item m in
        let real = sound.real there.0 f (Mapped.there m) in
        let w = ideal_after program limits (pairs_in f.moves) in
        let t = told there.0 f.moves (map_at moves_of found there.0 f (Mapped.there m)) in
        subst (IsOutcome outcomes) (observed_counted program w ∙ sym real.observed ∙ Mapped.is m)
        (t.worlds (uncounted w) begins (halted_uncounted program limits w real.halted))

  -- ---- the parts of an exploration in which nothing waits

  pub parts_of_all : (first : List Move) (e : Exploration) → HasAll program limits first no_room e
      → AreSoundAfter program limits first e.outcomes.found
      → AreParts program limits first no_room (rests e.outcomes.found)
  parts_of_all first e all sound = record {
    turns = rests_turn first e.outcomes.found sound;
    begin = rests_begin first e.outcomes.found sound;
    whole = λ outcomes told. tells_more program limits no_room (start_of program limits first) (map outcome_of e.outcomes.found)
        all.told outcomes (rests_told first e.outcomes.found sound outcomes told);
  }

  -- ---- and of one on its way

  module _ (first : List Move) (e : Exploration) (way : IsOnItsWay program limits first no_room e) where
    abbrev parts : List (List Move)
    parts = rests e.outcomes.found ++ ways first e.search

    sound : AreSoundAfter program limits first e.outcomes.found
    sound = way.is.sound

    module _ (outcomes : List Observed) (told : (k : ℕ) (p : List Move) → slice_get parts k ≡ Some p
        → TellsOutcomes program limits no_room (start_of program limits p) outcomes) where
      -- a state that was expanded stands for it, or its like follows a part
      abbrev Held : World → Type 0
      Held v = ((a : IsAmong way.known v) × (a.place < way.expanded)) ⊎ IsTold outcomes v

      of_waiting : (j : ℕ) (x v : World) → slice_get (map world_of e.search.waiting) j ≡ Some x → Represents x v
          → IsTold outcomes v
      of_waiting j x v there r =
          let m = mapped world_of e.search.waiting j x there in
          let s = Mapped.item m in
          let p = way_to first e.search.origins s in
          let met = subst (IsWitnessed program limits (pairs_in p)) (Mapped.is m)
          (way.is.has.traced j s (Mapped.there m)).witnessed in
          begins_told outcomes p x v (told (length (rests e.outcomes.found) + j) p
          (behind (rests e.outcomes.found) (ways first e.search) j
          ∙ map_at (way_to first e.search.origins) e.search.waiting j s (Mapped.there m))) met r

      held : (v : World) → IsAmong way.known v → Held v
      held v a = elim (cases_lt a.place way.expanded) [
        | inl before ↦ inl (a, before)
        | inr past ↦ (let sum : way.expanded + (a.place - way.expanded) ≡ a.place = omega (arith, past) in
            inr (of_waiting (a.place - way.expanded) a.state v
            (ap (λ (ws : List World). slice_get ws (a.place - way.expanded)) way.is.waits
            ∙ dropped way.known way.expanded (a.place - way.expanded) ∙ ap (slice_get way.known) sum ∙ a.there)
            a.represents))
      ]

      goes_on : (v : World) → Held v → (t : ℕ) (choice : Choice) → (no_room ≡ false → choice ≡ NewObject)
          → refusal program limits v (Thread t) ≡ None → HoldsAhead program limits Held (next program v t choice).after
      goes_on v h t choice room free = elim h [
        | inl s ↦ (let a = s.0 in
            let z = turn_leads program limits no_room way.known a.state v a.represents t
            (way.is.closed.expanded a.place a.state t s.1 a.there) choice room free in
            record { world = z.world; ahead = z.ahead; held = held z.world z.among })
        | inr s ↦ record {
          world = (next program v t choice).after;
          ahead = stays (next program v t choice).after;
          held = inr (told_on outcomes v s t choice room free);
        }
      ]

      shown : (v : World) → Held v → IsHalted program limits v → IsOutcome outcomes (observed program v)
      shown v h halted = elim h [
        | inl s ↦ (let a = s.0 in
            subst (IsOutcome outcomes) (observed_same program limits a.state v a.represents)
            (rests_told first e.outcomes.found sound outcomes
            (λ k p there. told k p (below (rests e.outcomes.found) (ways first e.search) k p there))
            (observed program a.state)
            (way.is.lists a.place a.state s.1 a.there
            (λ t free. halted t (sym (same_thread_refusal program limits a.state v a.represents t) ∙ free)))))
        | inr s ↦ told_at outcomes v s halted
      ]

      whole : TellsOutcomes program limits no_room (start_of program limits first) outcomes
      whole =
          let o = way.is.closed.opening in
          tells_outcomes program limits no_room (start_of program limits first) outcomes
          (observed_of_held program limits no_room Held goes_on (start_of program limits first)
          (record { world = o.world; ahead = o.ahead; held = held o.world o.among }) outcomes shown)

    pub parts_so_far : AreParts program limits first no_room parts
    parts_so_far = record {
      turns = λ k p there. (elim (split_at (rests e.outcomes.found) (ways first e.search) k p there) [
        | inl s ↦ rests_turn first e.outcomes.found sound k p s
        | inr s ↦ (let m = mapped (way_to first e.search.origins) e.search.waiting s.0 p s.1 in
            let met = (way.is.has.traced s.0 (Mapped.item m) (Mapped.there m)).witnessed in
            subst (AreTurns program limits) (Mapped.is m)
            (met.counted ∙ length-map (way_to first e.search.origins (Mapped.item m)) pair_in))
      ]);
      begin = λ k p there. (elim (split_at (rests e.outcomes.found) (ways first e.search) k p there) [
        | inl s ↦ rests_begin first e.outcomes.found sound k p s
        | inr s ↦ (let m = mapped (way_to first e.search.origins) e.search.waiting s.0 p s.1 in
            let x = Mapped.item m in
            subst (BeginsWith first) (Mapped.is m) (trail e.search.origins x.level x.place, refl))
      ]);
      whole = whole;
    }
