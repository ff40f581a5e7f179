use Rattle.std.proofs.Common.{◌≡◌, inl, inr, ℕ, zero, suc, ◌+◌, ◌-◌, ◌<◌, ◌≤◌, arith, List, [], ◌∷◌, ◌++◌, length, map, replicate, reverse}
use Rattle.std.proofs.Common.{slice_get, is_some, Bool, true, false, ◌&&◌, ◌||◌, Option, Some, None, refl, sym, ◌∙◌, ap, subst}
use Rattle.std.proofs.Common.{if◌then◌else◌}
use Rattle.std.proofs.lemmas.Bool.{cases_lt}
use Rattle.std.proofs.lemmas.List.{append_assoc, length-append, length-map, length-replicate, map-append, reverse-append}
use Rattle.std.proofs.lemmas.Option.{slice_get_within}
use Rattle.model.specs.declared.journals.Limits.{Limits}
use Rattle.model.specs.declared.turns.Actor.TheVariants.{Thread}
use Rattle.model.specs.declared.turns.Turn.{Turn}
use Rattle.model.specs.Effects.{Choice}
use Rattle.model.specs.Effects.Choice.{NewObject, NoRoom}
use Rattle.model.specs.Table.Next.{asked, next}
use Rattle.model.specs.Turns.{refusal}
use Rattle.model.specs.ClassListings.{ClassListing}
use Rattle.model.specs.Worlds.{World}
use Rattle.model.specs.Worlds.Thread.{Live}
use Rattle.model.proofs.CollectorLemmas.Running.{unfaulted}
use Rattle.ideal_run.specs.Effected.{choice_in}
use Rattle.ideal_run.specs.Successors.{Successor, Transitions, successor, unless_refused}
use Rattle.join.proofs.Lists.{get-newest}
use Rattle.exploration.specs.CanonicalForms.{AllMade}
use Rattle.exploration.specs.ClosedLists.{IsWitnessed, Pair, ideal_after, pair_of}
use Rattle.exploration.specs.Reduction.{IsAheadAmong}
use Rattle.exploration.specs.Representation.{Images, Represents, uncounted}
use Rattle.exploration.specs.Search.{IsExpanded}
use Rattle.exploration.proofs.CanonicalForms.{images_made, turns_make_all}
use Rattle.exploration.proofs.ClosedLists.{same_refusal}
use Rattle.exploration.proofs.ReducedRuns.{live_at}
use Rattle.exploration.proofs.Witnesses.{turns_are_witnessed}
use Rattle.exploration.proofs.ReducedWitnesses.{ahead_is_witnessed}
use Rattle.exploration.proofs.PlainSteps.{image_ahead}
use Rattle.exploration.proofs.Turns.{turn_images}
use Rattle.exploration.specs.ReducedRuns.{pairs_in as pairs_along}
use Rattle.exploring.specs.Canonical.{canonical}
use Rattle.exploring.specs.declared.explored.Move.{Move}
use Rattle.exploring.specs.declared.origins.Origin.{Origin}
use Rattle.exploring.specs.declared.search.Waiting.{Waiting}
use Rattle.exploring.specs.Expansion.{Expands, ExpandsAll, ExpandsBelow, Finds, Follows, GoesOn, Grows, HasKnown}
use Rattle.exploring.specs.Expansion.{IsTraced, Moves, MovesBelow, Search, SomeMoves, way_to, world_of}
use Rattle.exploring.specs.Ahead.{WentAhead, WentOn}
use Rattle.exploring.specs.Origins.{IsLed, back_by, back_from, led_by, moves_back, pair_in, pairs_in, plain_after, trail}
use Rattle.exploring.specs.States.{HasStates, IsOneOf}
use Rattle.exploring.proofs.CanonicalLemmas.{is_represented}

-- what a turn of a state leads to is found

nothing_more : {A : Type 0} (xs : List A) → xs ++ [] ≡ xs
nothing_more [] = refl
nothing_more (x ∷ xs) = ap (λ ys. x ∷ ys) (nothing_more xs)

pub below : {A : Type 0} (xs ys : List A) (k : ℕ) (x : A) → slice_get xs k ≡ Some x → slice_get (xs ++ ys) k ≡ Some x
below [] ys k x e = absurd (cc)
below (z ∷ xs) ys zero x e = e
below (z ∷ xs) ys (suc k) x e = below xs ys k x e

pub each_more : {A : Type 0} (P : A → Type 0) (xs : List A) (y : A) → ((j : ℕ) (x : A) → slice_get xs j ≡ Some x → P x)
    → P y → (j : ℕ) (x : A) → slice_get (xs ++ y ∷ []) j ≡ Some x → P x
each_more P [] y all one zero x e = (let same : y ≡ x = cc in subst P same one)
each_more P [] y all one (suc j) x e = absurd (cc)
each_more P (z ∷ xs) y all one zero x e = all 0 x e
each_more P (z ∷ xs) y all one (suc j) x e = each_more P xs y (λ i. all (suc i)) one j x e

-- ---- the moves that led to a state

-- origins of others change nothing
longer : (origins more : List Origin) (n place : ℕ) → IsLed origins n place
    → IsLed (origins ++ more) n place × (moves_back (origins ++ more) n place ≡ moves_back origins n place)
longer origins more zero place e = (tt, refl)
longer origins more (suc n) place e = by (slice_get origins place) refl e (longer origins more n)
  where
    by : (o : Option Origin) → slice_get origins place ≡ o → led_by (IsLed origins n) o
        → ((p : ℕ) → IsLed origins n p
        → IsLed (origins ++ more) n p × (moves_back (origins ++ more) n p ≡ moves_back origins n p))
        → led_by (IsLed (origins ++ more) n) (slice_get (origins ++ more) place)
        × (back_by (moves_back (origins ++ more) n) (slice_get (origins ++ more) place) ≡ back_by (moves_back origins n) o)
    by None k f rest = absurd f
    by (Some o) k f rest =
        let there = below origins more place o k in
        let before = rest o.parent f in (
          subst (led_by (IsLed (origins ++ more) n)) (sym there) before.0,
          ap (back_by (moves_back (origins ++ more) n)) there ∙ ap (λ ms. back_from o ++ ms) before.1,
        )

last_more : {A : Type 0} (n : ℕ) (x : A) → replicate n x ++ x ∷ [] ≡ x ∷ replicate n x
last_more zero x = refl
last_more (suc n) x = ap (λ xs. x ∷ xs) (last_more n x)

same_back : {A : Type 0} (n : ℕ) (x : A) → reverse (replicate n x) ≡ replicate n x
same_back zero x = refl
same_back (suc n) x = reverse-append (x ∷ []) (replicate n x) ∙ ap (λ xs. xs ++ x ∷ []) (same_back n x) ∙ last_more n x

each_same : {A B : Type 0} (f : A → B) (n : ℕ) (x : A) → map f (replicate n x) ≡ replicate n (f x)
each_same f zero x = refl
each_same f (suc n) x = ap (λ ys. f x ∷ ys) (each_same f n x)

-- the moves from the parent, in order
in_order : (o : Origin) (before : List Move)
    → reverse (back_from o ++ before) ≡ reverse before ++ o.by ∷ replicate o.ahead (plain_after o.by)
in_order o before = reverse-append (back_from o) before
    ∙ ap (λ ms. reverse before ++ ms) (reverse-append (replicate o.ahead (plain_after o.by)) (o.by ∷ [])
    ∙ ap (λ ms. o.by ∷ ms) (same_back o.ahead (plain_after o.by)))

-- ---- whatever paths reach in a turn of what has a witness was made

module _ (program : List ClassListing) (limits : Limits) (pairs : List Pair) (x : World)
    (r : IsWitnessed program limits pairs x) (t : ℕ) (free : refusal program limits x (Thread t) ≡ None) where
  abbrev behind : World
  behind = uncounted (ideal_after program limits pairs)

  clean_behind : behind.fault ≡ None
  clean_behind = unfaulted program limits behind t (sym (same_refusal program limits x behind r.represents (Thread t)) ∙ free)

  pub turn_images_behind : (choice : Choice)
      → Images (next program x t choice).after (next program behind t choice).after
  turn_images_behind choice = turn_images program x behind r.represents t choice clean_behind

  pub makes_all : (choice : Choice) → AllMade (next program x t choice).after
  makes_all choice = turns_make_all program x behind t choice r.represents clean_behind

module _ (program : List ClassListing) (limits : Limits) (first : List Move) where
  pub traced_more : (origins more : List Origin) (s : Waiting) → IsTraced program limits first origins s
      → IsTraced program limits first (origins ++ more) s
  traced_more origins more s r =
      let same = longer origins more s.level s.place r.led in
      record {
        led = same.0;
        long = ap (λ (ms : List Move). length (first ++ reverse ms)) same.1 ∙ r.long;
        witnessed = subst (λ (ms : List Move). IsWitnessed program limits (pairs_in (first ++ reverse ms)) s.world)
            (sym same.1) r.witnessed;
      }

  -- ---- a state to which a move of it leads, and then some plain steps

  module _ (origins : List Origin) (parent : Waiting) (m : Move) (w : World)
      (f : Follows program limits first origins parent m w) (v : World) (n : ℕ) (g : GoesOn program limits parent m w v n) where
    made_by : AllMade v
    made_by =
        let y = uncounted (ideal_after program limits (pairs_in (way_to first origins parent))) in
        let choice = choice_in m.choice in
        let i : Images w (next program y m.thread choice).after =
        subst (λ (z : World). Images z (next program y m.thread choice).after) (sym f.is)
        (turn_images_behind program limits (pairs_in (way_to first origins parent)) parent.world f.traced.witnessed m.thread
        f.free choice) in
        let k = image_ahead program w v (next program y m.thread choice).after i g.went.ahead in
        images_made v k.world k.images

    pub represented : Represents (canonical v) v
    represented = is_represented v made_by

    -- the ideal run's pairs
    module _ (pairs : List Pair) (met : IsWitnessed program limits pairs parent.world)
        (size : length pairs ≡ parent.depth) where
      with_ahead : w.fault ≡ None → parent.depth + 1 + n ≤ limits.steps
          → IsWitnessed program limits (pairs ++ pair_in m ∷ replicate n (pair_of m.thread NewObject)) (canonical v)
      with_ahead clean within = go w f.is g.went clean
        where
          go : (x : World) → x ≡ (next program parent.world m.thread (choice_in m.choice)).after
              → WentAhead program m.thread n x v → x.fault ≡ None
              → IsWitnessed program limits (pairs ++ pair_in m ∷ replicate n (pair_of m.thread NewObject)) (canonical v)
          go x is went none =
              let after = (next program parent.world m.thread (choice_in m.choice)).after in
              let ahead : WentAhead program m.thread n after v = subst (λ (z : World). WentAhead program m.thread n z v) is went in
              let count : length (pairs_along ahead.ahead) ≡ n = ap length ahead.pairs ∙ length-replicate n (pair_of m.thread NewObject) in
              subst (λ (qs : List Pair). IsWitnessed program limits (pairs ++ pair_in m ∷ qs) (canonical v)) ahead.pairs
              (ahead_is_witnessed program limits pairs parent.world (canonical v) v m.thread (choice_in m.choice) met f.free
              (ap (λ (z : World). z.fault) (sym is) ∙ none) ahead.ahead (omega (arith, size, count, within)) represented)

      with_none : n ≡ 0 → v ≡ w
          → IsWitnessed program limits (pairs ++ pair_in m ∷ replicate n (pair_of m.thread NewObject)) (canonical v)
      with_none none same =
          let under = f.below in
          subst (λ (k : ℕ). IsWitnessed program limits (pairs ++ pair_in m ∷ replicate k (pair_of m.thread NewObject))
          (canonical v)) (sym none)
          (turns_are_witnessed program limits pairs parent.world (canonical v) m.thread (choice_in m.choice) met
          (omega (arith, size, under)) f.free (subst (Represents (canonical v)) (same ∙ f.is) represented))

      led_on : IsWitnessed program limits (pairs ++ pair_in m ∷ replicate n (pair_of m.thread NewObject)) (canonical v)
      led_on = elim g.how [ inl s ↦ with_ahead s.0 s.1 | inr s ↦ with_none s.0 s.1 ]

    pub next_traced : (o : Origin) → o ≡ record { parent = parent.place; by = m; ahead = n } → (s : Waiting)
        → s ≡ record { world = canonical v; place = length origins; level = parent.level + 1; depth = parent.depth + 1 + n }
        → IsTraced program limits first (origins ++ o ∷ []) s
    next_traced o from s is =
        let os = origins ++ o ∷ [] in
        let before = moves_back origins parent.level parent.place in
        let more : parent.level + 1 ≡ suc parent.level = omega arith in
        let old = longer origins (o ∷ []) parent.level parent.place f.traced.led in
        let there = get-newest origins o in
        let led : IsLed os (suc parent.level) (length origins) =
        subst (led_by (IsLed os parent.level)) (sym there)
        (subst (λ (p : Origin). IsLed os parent.level p.parent) (sym from) old.0) in
        let plain = plain_after m in
        let earlier = first ++ reverse before in
        let order : first ++ trail os (suc parent.level) (length origins) ≡ earlier ++ m ∷ replicate n plain =
        ap (λ (x : Option Origin). first ++ reverse (back_by (moves_back os parent.level) x)) there
        ∙ ap (λ (p : Origin). first ++ reverse (back_from p ++ moves_back os parent.level p.parent)) from
        ∙ ap (λ ms. first ++ reverse (back_from (record { parent = parent.place; by = m; ahead = n }) ++ ms)) old.1
        ∙ ap (λ ms. first ++ ms) (in_order (record { parent = parent.place; by = m; ahead = n }) before)
        ∙ sym (append_assoc first (reverse before) (m ∷ replicate n plain)) in
        let pairs : pairs_in (earlier ++ m ∷ replicate n plain)
        ≡ pairs_in earlier ++ pair_in m ∷ replicate n (pair_of m.thread NewObject) =
        map-append pair_in earlier (m ∷ replicate n plain)
        ∙ ap (λ ps. pairs_in earlier ++ pair_in m ∷ ps) (each_same pair_in n plain) in
        let size : length (pairs_in earlier) ≡ parent.depth = length-map earlier pair_in ∙ f.traced.long in
        let one = led_on (pairs_in earlier) f.traced.witnessed size in
        let tail : length (m ∷ replicate n plain) ≡ suc n = ap suc (length-replicate n plain) in
        let sum = length-append earlier (m ∷ replicate n plain) in
        let old_long = f.traced.long in
        let long : length (earlier ++ m ∷ replicate n plain) ≡ parent.depth + 1 + n =
        omega (arith, sum, tail, old_long) in
        let all : (l : ℕ) → l ≡ suc parent.level → IsTraced program limits first os
        (record { world = canonical v; place = length origins; level = l; depth = parent.depth + 1 + n }) =
        λ l e. subst (λ (k : ℕ). IsTraced program limits first os
        (record { world = canonical v; place = length origins; level = k; depth = parent.depth + 1 + n })) (sym e) (record {
          led = led;
          long = ap length order ∙ long;
          witnessed = subst (λ (ps : List Pair). IsWitnessed program limits ps (canonical v))
              (sym (ap pairs_in order ∙ pairs)) one;
        }) in
        subst (IsTraced program limits first os) (sym is) (all (parent.level + 1) more)

-- how far a thread went on
pub goes_on : (program : List ClassListing) (limits : Limits) (parent : Waiting) (m : Move) (w v : World) (room n : ℕ)
    → parent.depth < limits.steps → room ≡ limits.steps - parent.depth - 1 → WentOn program m.thread room w v n
    → GoesOn program limits parent m w v n
goes_on program limits parent m w v room n below is went = record {
  went = went.went;
  how = (elim went.clean [
    | inl clean ↦ (let few = went.few in inl (clean, omega (arith, few, is, below)))
    | inr none ↦ inr none
  ]);
}

-- ---- a state is added

module _ (program : List ClassListing) (limits : Limits) (first : List Move) (old : Search) (known : List World)
    (k : HasKnown program limits first old known) where
  -- nothing changes but what isn't looked at
  pub grows_not : (new : Search) → HasStates new.stored known → new.origins ≡ old.origins → new.waiting ≡ old.waiting
      → Grows program limits first old new known
  grows_not new has origins waiting = record {
    more = [];
    since = [];
    has = subst (HasKnown program limits first new) (sym (nothing_more known)) (record {
      has = has;
      traced = λ j s e. subst (λ (os : List Origin). IsTraced program limits first os s) (sym origins)
          (k.traced j s (ap (λ (xs : List Waiting). slice_get xs j) (sym waiting) ∙ e));
      count = ap length origins ∙ k.count;
    });
    waits = ap (map world_of) waiting ∙ sym (nothing_more (map world_of old.waiting));
    origins = origins ∙ sym (nothing_more old.origins);
  }

  -- one for what a world goes ahead to
  there : (states : List World) (t n : ℕ) (w v : World) → WentAhead program t n w v → Represents (canonical v) v
      → IsOneOf states (canonical v) → IsAheadAmong program states w
  there states t n w v went r p = record {
    world = v;
    ahead = went.ahead;
    among = record { place = p.0; state = canonical v; there = p.1; represents = r };
  }

  pub finds_old : (new : Search) (parent : Waiting) (m : Move) (w : World)
      → Follows program limits first old.origins parent m w → (v : World) (n : ℕ) → GoesOn program limits parent m w v n
      → HasStates new.stored known × IsOneOf known (canonical v)
      → new.origins ≡ old.origins → new.waiting ≡ old.waiting → Finds program limits first old new known w
  unfolding grows_not
  finds_old new parent m w f v n g both origins waiting = record {
    grows = grows_not new both.0 origins waiting;
    there = there (known ++ []) m.thread n w v g.went (represented program limits first old.origins parent m w f v n g)
        (subst (λ (xs : List World). IsOneOf xs (canonical v)) (sym (nothing_more known)) both.1);
  }

  pub finds_new : (new : Search) (parent : Waiting) (m : Move) (w : World)
      → Follows program limits first old.origins parent m w → (v : World) (n : ℕ) → GoesOn program limits parent m w v n
      → HasStates new.stored (known ++ canonical v ∷ [])
      → (o : Origin) → o ≡ record { parent = parent.place; by = m; ahead = n } → (s : Waiting)
      → s ≡ record { world = canonical v; place = length old.origins; level = parent.level + 1; depth = parent.depth + 1 + n }
      → new.origins ≡ old.origins ++ o ∷ [] → new.waiting ≡ old.waiting ++ s ∷ []
      → Finds program limits first old new known w
  finds_new new parent m w f v n g has o from s is origins waiting = record {
    grows = record {
      more = canonical v ∷ [];
      since = o ∷ [];
      has = record {
        has = has;
        traced = λ j x e. subst (λ (os : List Origin). IsTraced program limits first os x) (sym origins)
            (each_more (IsTraced program limits first (old.origins ++ o ∷ [])) old.waiting s
            (λ i y q. traced_more program limits first old.origins (o ∷ []) y (k.traced i y q))
            (next_traced program limits first old.origins parent m w f v n g o from s is) j x
            (ap (λ (xs : List Waiting). slice_get xs j) (sym waiting) ∙ e));
        count = ap length origins ∙ length-append old.origins (o ∷ []) ∙ ap (λ (n : ℕ). n + 1) k.count
            ∙ sym (length-append known (canonical v ∷ []));
      };
      waits = ap (map world_of) waiting ∙ map-append world_of old.waiting (s ∷ [])
          ∙ ap (λ (x : Waiting). map world_of old.waiting ++ x.world ∷ []) is;
      origins = origins;
    };
    there = there (known ++ canonical v ∷ []) m.thread n w v g.went
        (represented program limits first old.origins parent m w f v n g) (length known, get-newest known (canonical v));
  }

-- ---- one after another

module _ (program : List ClassListing) (limits : Limits) (first : List Move) (old mid new : Search) (known : List World)
    (g : Grows program limits first old mid known) (h : Grows program limits first mid new (known ++ g.more)) where
  same : (known ++ g.more) ++ h.more ≡ known ++ (g.more ++ h.more)
  same = append_assoc known g.more h.more

  pub both : Grows program limits first old new known
  both = record {
    more = g.more ++ h.more;
    since = g.since ++ h.since;
    has = subst (HasKnown program limits first new) same h.has;
    waits = h.waits ∙ ap (λ xs. xs ++ h.more) g.waits ∙ append_assoc (map world_of old.waiting) g.more h.more;
    origins = h.origins ∙ ap (λ (os : List Origin). os ++ h.since) g.origins ∙ append_assoc old.origins g.since h.since;
  }

  pub first_there : (w : World) → IsAheadAmong program (known ++ g.more) w
      → IsAheadAmong program (known ++ (g.more ++ h.more)) w
  first_there w a = subst (λ (xs : List World). IsAheadAmong program xs w) same (record {
    world = a.world;
    ahead = a.ahead;
    among = record {
      place = a.among.place;
      state = a.among.state;
      there = below (known ++ g.more) h.more a.among.place a.among.state a.among.there;
      represents = a.among.represents;
    };
  })

  pub then_there : (w : World) → IsAheadAmong program ((known ++ g.more) ++ h.more) w
      → IsAheadAmong program (known ++ (g.more ++ h.more)) w
  then_there w a = subst (λ (xs : List World). IsAheadAmong program xs w) same a

-- what was traced still is
pub traced_after : (program : List ClassListing) (limits : Limits) (first : List Move) (old new : Search) (known : List World)
    → Grows program limits first old new known → (s : Waiting) → IsTraced program limits first old.origins s
    → IsTraced program limits first new.origins s
traced_after program limits first old new known g s r =
    subst (λ (os : List Origin). IsTraced program limits first os s) (sym g.origins)
    (traced_more program limits first old.origins g.since s r)

-- ---- the turns of a thread

module _ (s : Transitions) (x : World) (t : ℕ) where
  refused_or : (choice : Choice) (r : Option Turn) → refusal s.program s.limits x (Thread t) ≡ r → (a : Successor)
      → Some a ≡ successor s x t choice → r ≡ None
  refused_or choice (Some refused) e a k =
      (let none = k ∙ ap (unless_refused s x t choice) e in absurd (cc))
  refused_or choice None e a k = refl

  pub free : (choice : Choice) (a : Successor) → Some a ≡ successor s x t choice
      → refusal s.program s.limits x (Thread t) ≡ None
  free choice a k = refused_or choice (refusal s.program s.limits x (Thread t)) refl a k

  pub left : (choice : Choice) (a : Successor) → Some a ≡ successor s x t choice
      → a ≡ record { world = (next s.program x t choice).after; asks = is_some (asked s.program x t) }
  left choice a k =
      (let is = k ∙ ap (unless_refused s x t choice) (free choice a k) in cc)

  pub never : (choice : Choice) → None ≡ successor s x t choice → refusal s.program s.limits x (Thread t) ≡ None → ⊥
  never choice k e = (let none = k ∙ ap (unless_refused s x t choice) e in cc)

module _ (s : Transitions) (first : List Move) (no_room : Bool) (x : World) (t : ℕ) where
  -- what a move of it leads to follows it
  pub follows : (origins : List Origin) (parent : Waiting) → parent.world ≡ x → IsTraced s.program s.limits first origins parent
      → parent.depth < s.limits.steps → (m : Move) → m.thread ≡ t → (a : Successor)
      → Some a ≡ successor s x t (choice_in m.choice) → Follows s.program s.limits first origins parent m a.world
  follows origins parent here r below m thread a k = record {
    traced = r;
    below = below;
    free = rw (here, thread) (free s x t (choice_in m.choice) a k);
    is = rw (here, thread) (ap (λ (y : Successor). y.world) (left s x t (choice_in m.choice) a k));
  }

  pub expands_refused : (choice : Choice) (old : Search) (known : List World) → HasKnown s.program s.limits first old known
      → None ≡ successor s x t choice → Expands s.program s.limits first no_room old old known x t false
  expands_refused choice old known has k = record {
    grows = grows_not s.program s.limits first old known has old has.has refl refl;
    expanded = record {
      turned = λ e. absurd (never s x t choice k e);
      without_room = λ both words e q. absurd (never s x t choice k e);
    };
    moves = never s x t choice k;
  }

  module _ (a : Successor) (k : Some a ≡ successor s x t NewObject) (old new : Search) (known : List World)
      (f : Finds s.program s.limits first old new known a.world) where
    turned : IsAheadAmong s.program (known ++ f.grows.more) (next s.program x t NewObject).after
    turned = subst (IsAheadAmong s.program (known ++ f.grows.more)) (ap (λ (y : Successor). y.world) (left s x t NewObject a k))
        f.there

    pub expands_alone : (no_room && a.asks) ≡ false → Expands s.program s.limits first no_room old new known x t true
    expands_alone e = record {
      grows = f.grows;
      expanded = record {
        turned = λ q. turned;
        without_room = λ both words q asks. (
            let is = ap (λ (y : Successor). y.asks) (left s x t NewObject a k) ∙ ap is_some asks in
            let no = sym (ap (λ b. b && a.asks) both ∙ is) ∙ e in
            absurd (cc)
            );
      };
      moves = free s x t NewObject a k;
    }

    pub expands_both : (b : Successor) → Some b ≡ successor s x t NoRoom → (last : Search)
        → Finds s.program s.limits first new last (known ++ f.grows.more) b.world
        → Expands s.program s.limits first no_room old last known x t true
    unfolding both
    expands_both b q last g =
        let is = ap (λ (y : Successor). y.world) (left s x t NewObject a k) in
        let other = ap (λ (y : Successor). y.world) (left s x t NoRoom b q) in
        let all = known ++ (f.grows.more ++ g.grows.more) in
        record {
          grows = both s.program s.limits first old new last known f.grows g.grows;
          expanded = record {
            turned = λ e. subst (IsAheadAmong s.program all) is
                (first_there s.program s.limits first old new last known f.grows g.grows a.world f.there);
            without_room = λ yes words e w. subst (IsAheadAmong s.program all) other
                (then_there s.program s.limits first old new last known f.grows g.grows b.world g.there);
          };
          moves = free s x t NewObject a k;
        }

-- ---- those of one thread after another

module _ (program : List ClassListing) (limits : Limits) (first : List Move) (no_room : Bool) (x : World) where
  among_more : (states more : List World) (w : World) → IsAheadAmong program states w
      → IsAheadAmong program (states ++ more) w
  among_more states more w a = record {
    world = a.world;
    ahead = a.ahead;
    among = record {
      place = a.among.place;
      state = a.among.state;
      there = below states more a.among.place a.among.state a.among.there;
      represents = a.among.represents;
    };
  }

  expanded_more : (states more : List World) (t : ℕ) → IsExpanded program limits no_room states x t
      → IsExpanded program limits no_room (states ++ more) x t
  expanded_more states more t e = record {
    turned = λ q. among_more states more _ (e.turned q);
    without_room = λ yes words q a. among_more states more _ (e.without_room yes words q a);
  }

  pub none_yet : (old : Search) (known : List World) → HasKnown program limits first old known
      → ExpandsBelow program limits first no_room old old known x 0 false
  none_yet old known has = record {
    grows = grows_not program limits first old known has old has.has refl refl;
    expanded = λ t l. absurd (omega (arith, l));
    moves = λ t l. absurd (omega (arith, l));
  }

  -- whether one of them moved
  either_moves : (n t : ℕ) → t ≡ n → (a b c : Bool) → MovesBelow program limits x n a → Moves program limits x t b
      → c ≡ (if b then true else a) → MovesBelow program limits x (n + 1) c
  either_moves n t is a true c p q e = rw e (t, q)
  either_moves n t is true false c p q e = rw e p
  either_moves n t is false false c p q e = rw e (λ u l free. elim (cases_lt u n) [
    | inl before ↦ p u before free
    | inr past ↦ (let now : u ≡ t = omega (arith, l, past, is) in
        q (subst (λ (k : ℕ). refusal program limits x (Thread k) ≡ None) now free))
  ])

  pub one_thread_more : (old mid new : Search) (known : List World) (n t : ℕ) → t ≡ n → (a b c : Bool)
      → c ≡ (if b then true else a) → (e : ExpandsBelow program limits first no_room old mid known x n a)
      → Expands program limits first no_room mid new (known ++ e.grows.more) x t b
      → ExpandsBelow program limits first no_room old new known x (n + 1) c
  unfolding both
  one_thread_more old mid new known n t is a b c one e f =
      let all = same program limits first old mid new known e.grows f.grows in
      record {
        grows = both program limits first old mid new known e.grows f.grows;
        expanded = λ u l. subst (λ (xs : List World). IsExpanded program limits no_room xs x u) all
            (elim (cases_lt u n) [
              | inl before ↦ expanded_more (known ++ e.grows.more) f.grows.more u (e.expanded u before)
              | inr past ↦ (let now : t ≡ u = omega (arith, l, past, is)
                  in subst (λ (k : ℕ). IsExpanded program limits no_room ((known ++ e.grows.more) ++ f.grows.more) x k) now
                  f.expanded)
            ]);
        moves = either_moves n t is a b c e.moves f.moves one;
      }

  -- past the last thread every turn is refused
  pub all_threads : (old new : Search) (known : List World) (n : ℕ) (a : Bool) → length x.threads ≤ n
      → ExpandsBelow program limits first no_room old new known x n a
      → ExpandsAll program limits first no_room old new known x a
  all_threads old new known n a past e = record {
    grows = e.grows;
    expanded = λ t. (elim (cases_lt t n) [
      | inl before ↦ e.expanded t before
      | inr after ↦ record {
        turned = λ q. absurd (nobody t after q);
        without_room = λ yes words q a. absurd (nobody t after q);
      }
    ]);
    moves = all_moves a e.moves;
  }
    where
      nobody : (t : ℕ) → n ≤ t → refusal program limits x (Thread t) ≡ None → ⊥
      nobody t after q =
          let live = live_at program limits x t q in
          let within = slice_get_within x.threads t (Live live.0) live.1 in
          omega (arith, after, past, within)

      all_moves : (b : Bool) → MovesBelow program limits x n b → SomeMoves program limits x b
      all_moves true p = p
      all_moves false p = λ t q. elim (cases_lt t n) [ inl before ↦ p t before q | inr after ↦ nobody t after q ]

pub either_is : (a b : Bool) → (a || b) ≡ (if b then true else a)
either_is true true = refl
either_is true false = refl
either_is false true = refl
either_is false false = refl
