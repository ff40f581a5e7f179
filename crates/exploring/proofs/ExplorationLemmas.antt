use Rattle.std.proofs.Common.{◌≡◌, ◌⊎◌, inl, inr, ℕ, zero, suc, ◌+◌, ◌<◌, ◌≤◌, arith, List, [], ◌∷◌, ◌++◌, length, map, drop}
use Rattle.std.proofs.Common.{slice_get, is_none, nat_le, not, ◌&&◌, ◌||◌, Bool, true, false, if◌then◌else◌, Option, Some, None, refl, sym}
use Rattle.std.proofs.Common.{◌∙◌, ap, subst}
use Rattle.std.specs.List.{list_any}
use Rattle.std.specs.Str.{bytes_eq}
use Rattle.std.proofs.lemmas.Bool.{cases_lt}
use Rattle.std.proofs.lemmas.List.{append-nil, append_assoc, drop-append-le, length-append, map-append}
use Rattle.std.proofs.lemmas.Slice.Eq.{bytes_eq-Decides}
use Rattle.model.specs.declared.journals.Limits.{Limits}
use Rattle.model.specs.declared.turns.Actor.TheVariants.{Thread}
use Rattle.model.specs.declared.turns.Fault.{Fault}
use Rattle.model.specs.declared.turns.Turn.TheVariants.{NotReady, OutputFull}
use Rattle.model.specs.ClassListings.{ClassListing}
use Rattle.model.specs.Completions.{waits}
use Rattle.model.specs.Table.Next.{completion}
use Rattle.model.specs.Turns.{overflows, refusal, refusal_after, thread_refusal}
use Rattle.model.specs.Worlds.{World, is_live}
use Rattle.exploration.specs.ClosedLists.{IsWitnessed}
use Rattle.exploration.specs.Observations.{IsHalted, Observed, observed}
use Rattle.exploration.specs.Outcomes.{IsOutcome, IsReal, TellsOutcomes}
use Rattle.exploration.specs.Reduction.GoesAhead.{stays}
use Rattle.exploration.specs.Search.{ClosedBelow}
use Rattle.exploration.proofs.MadeBirths.{get_below}
use Rattle.exploration.proofs.Outcomes.{outcomes_are_real, outcomes_of_all}
use Rattle.exploration.proofs.ReducedRuns.{not_refused}
use Rattle.exploration.proofs.Search.{searches_all}
use Rattle.exploring.specs.declared.explored.Move.{Move}
use Rattle.exploring.specs.declared.origins.Origin.{Origin}
use Rattle.exploring.specs.declared.search.Waiting.{Waiting}
use Rattle.exploring.specs.Expansion.{ExpandsAll, HasKnown, IsTraced, Search, SomeMoves, kept, way_to, world_of}
use Rattle.exploring.specs.Explorations.{AreSoundAfter, BeginsWith, Exploration, Finding, IsBefore, IsFurther, IsOnItsWay, IsOnce}
use Rattle.exploring.specs.Explorations.{IsCompleteAfter, IsOver, Lists, Outcomes, Report, finding, key_of, noted, outcome_of}
use Rattle.exploring.specs.Explorations.{outcomes_in, report_of}
use Rattle.exploring.specs.declared.explored.Cut.{Cut}
use Rattle.exploring.specs.Keys.{outcome}
use Rattle.exploring.specs.Origins.{pairs_in, start_of, trail}
use Rattle.exploring.specs.States.{AddsState, HasStates, Stored}
use Rattle.exploring.proofs.ExpansionLemmas.{below, each_more, traced_after}
use Rattle.exploring.proofs.KeyLemmas.{outcome_keys_tell}

-- a search on its way

-- ---- a state none of whose turns is made, and one in which no thread can go on

module _ (program : List ClassListing) (limits : Limits) (x : World) where
  -- nothing but a thread's own rules refuses a turn of a state
  freed : x.rows < limits.steps → (t : ℕ) → thread_refusal program limits x t ≡ None
      → refusal program limits x (Thread t) ≡ None
  unfolding refusal
  freed under t e = by x.fault refl
    where
      faulted : (fault : Fault × ℕ) (full : Bool) → x.fault ≡ Some fault
          → (if is_none x.fault && is_live x t && not (waits (completion program x t))
          then (if full then Some OutputFull else None) else Some NotReady) ≡ None → ⊥
      faulted fault full k q = (let none : Some NotReady ≡ None =
          rw k at q in absurd (cc))

      not_yet : (s r : ℕ) → r < s → nat_le s r ≡ false
      not_yet s r l = grind (arith, l)

      by : (o : Option (Fault × ℕ)) → x.fault ≡ o → refusal_after program limits x (Thread t) o ≡ None
      by (Some fault) k = absurd (faulted fault (overflows program limits x t) k e)
      by None k = rw (not_yet limits.steps x.rows under) e

  pub no_turn_halts : x.rows < limits.steps → SomeMoves program limits x false → IsHalted program limits x
  no_turn_halts under none t e = none t (freed under t e)

  pub halted_has_none : SomeMoves program limits x true → IsHalted program limits x → ⊥
  halted_has_none some halted = halted some.0 (not_refused program limits x some.0 some.1)

-- a state counts no turns
pub no_rows : (program : List ClassListing) (limits : Limits) (first : List Move) (origins : List Origin) (s : Waiting)
    → IsTraced program limits first origins s → s.world.rows ≡ 0
no_rows program limits first origins s r = ap (λ (y : World). y.rows) r.witnessed.represents.is

-- ---- outcomes

module _ (o : Observed) where
  abbrev alike : List ℕ → Bool
  alike = bytes_eq (outcome o)

  -- one whose key is there is there
  among : (found : List Finding) → list_any alike (map key_of found) ≡ true → IsOutcome (map outcome_of found) o
  among [] e = absurd (cc)
  among (f ∷ found) e = first (alike (key_of f)) refl e (among found)
    where
      first : (b : Bool) → alike (key_of f) ≡ b → (b || list_any alike (map key_of found)) ≡ true
          → (list_any alike (map key_of found) ≡ true → IsOutcome (map outcome_of found) o)
          → IsOutcome (map outcome_of (f ∷ found)) o
      first true h k rest =
          let same = outcome_keys_tell o f.outcome ((bytes_eq-Decides (outcome o) (key_of f)).0 h) in
          (0, ap (λ (p : Observed). Some p) (sym same))
      first false h k rest = let there = rest k in (suc there.0, there.1)

  -- and one whose key isn't there isn't
  not_among : (found : List Finding) → list_any alike (map key_of found) ≡ false → (k : ℕ)
      → slice_get (map outcome_of found) k ≡ Some o → ⊥
  not_among [] e k there = cc
  not_among (f ∷ found) e zero there =
      let same : o ≡ f.outcome = cc in
      let yes = (bytes_eq-Decides (outcome o) (key_of f)).1 (ap outcome same) in
      never (alike (key_of f)) (list_any alike (map key_of found)) yes e
    where
      never : (a b : Bool) → a ≡ true → (a || b) ≡ false → ⊥
      never true b h q = cc
      never false b h q = cc
  not_among (f ∷ found) e (suc k) there =
      not_among found (rest (alike (key_of f)) (list_any alike (map key_of found)) e) k there
    where
      rest : (a b : Bool) → (a || b) ≡ false → b ≡ false
      rest true b q = absurd (cc)
      rest false b q = q

either : (os : List Observed) (o p : Observed) (i : ℕ) → slice_get (os ++ o ∷ []) i ≡ Some p
    → (slice_get os i ≡ Some p) ⊎ ((i ≡ length os) × (o ≡ p))
either [] o p zero e = inr (refl, cc)
either [] o p (suc i) e = absurd (cc)
either (q ∷ os) o p zero e = inl e
either (q ∷ os) o p (suc i) e = elim (either os o p i e) [ inl s ↦ inl s | inr s ↦ inr (ap suc s.0, s.1) ]

-- no two are the same, where a new one is added
once_more : (os : List Observed) (o : Observed) → IsOnce os → ((k : ℕ) → slice_get os k ≡ Some o → ⊥)
    → IsOnce (os ++ o ∷ [])
once_more os o once none i j p e f = elim (either os o p i e) [
  | inl a ↦ (elim (either os o p j f) [
    | inl b ↦ once i j p a b
    | inr b ↦ absurd (none i (a ∙ ap (λ (q : Observed). Some q) (sym b.1)))
  ])
  | inr a ↦ (elim (either os o p j f) [
    | inl b ↦ absurd (none j (b ∙ ap (λ (q : Observed). Some q) (sym a.1)))
    | inr b ↦ a.0 ∙ sym b.0
  ])
]

-- what a note leaves of the outcomes
pub record Notes (program : List ClassListing) (limits : Limits) (first : List Move) (old new : Outcomes) (o : Observed) : Type 0 where
  pub keyed : map key_of new.found ≡ new.keys
  pub sound : AreSoundAfter program limits first new.found
  pub there : IsOutcome (map outcome_of new.found) o
  pub more : (p : Observed) → IsOutcome (map outcome_of old.found) p → IsOutcome (map outcome_of new.found) p

pub notes : (program : List ClassListing) (limits : Limits) (first : List Move) (old : Outcomes) (o : Observed) (moves : List Move)
    → map key_of old.found ≡ old.keys → AreSoundAfter program limits first old.found → IsReal program limits (pairs_in moves) o
    → BeginsWith first moves → Notes program limits first old (noted old o moves) o
notes program limits first old o moves keyed sound real begin = by (list_any (bytes_eq (outcome o)) old.keys) refl
  where
    newest : (os : List Observed) → slice_get (os ++ o ∷ []) (length os) ≡ Some o
    newest [] = refl
    newest (p ∷ os) = newest os

    by : (b : Bool) → list_any (bytes_eq (outcome o)) old.keys ≡ b
        → Notes program limits first old (if b then old
        else record { keys = old.keys ++ outcome o ∷ []; found = old.found ++ finding o moves ∷ [] }) o
    by true e = record {
      keyed = keyed;
      sound = sound;
      there = among o old.found (ap (list_any (bytes_eq (outcome o))) keyed ∙ e);
      more = λ p there. there;
    }
    by false e =
        let all : map outcome_of (old.found ++ finding o moves ∷ []) ≡ map outcome_of old.found ++ o ∷ [] =
        map-append outcome_of old.found (finding o moves ∷ []) in
        record {
          keyed = map-append key_of old.found (finding o moves ∷ []) ∙ ap (λ ks. ks ++ outcome o ∷ []) keyed;
          sound = record {
            real = each_more (λ (f : Finding). IsReal program limits (pairs_in f.moves) f.outcome) old.found
                (finding o moves) sound.real real;
            begin = each_more (λ (f : Finding). BeginsWith first f.moves) old.found (finding o moves) sound.begin begin;
            once = subst IsOnce (sym all) (once_more (map outcome_of old.found) o sound.once
                (not_among o old.found (ap (list_any (bytes_eq (outcome o))) keyed ∙ e)));
          };
          there = subst (λ (os : List Observed). IsOutcome os o) (sym all)
              (length (map outcome_of old.found), newest (map outcome_of old.found));
          more = λ p there. subst (λ (os : List Observed). IsOutcome os p) (sym all)
              (there.0, below (map outcome_of old.found) (o ∷ []) there.0 p there.1);
        }

-- ---- the first state

opening_known : (program : List ClassListing) (limits : Limits) (first : List Move) (s : Search) (opening : Waiting)
    (x : World) (depth : ℕ) (o : Origin) → HasStates s.stored (x ∷ []) → IsWitnessed program limits (pairs_in first) x
    → depth ≡ length first → opening ≡ record { world = x; place = 0; level = 0; depth = depth }
    → s.origins ≡ o ∷ [] → s.waiting ≡ opening ∷ [] → HasKnown program limits first s (x ∷ [])
opening_known program limits first s opening x depth o has met long is origins waiting = record {
  has = has;
  traced = λ j y e. one y j (ap (λ (xs : List Waiting). slice_get xs j) (sym waiting) ∙ e);
  count = ap length origins;
}
  where
    all : first ++ [] ≡ first
    all = append-nil first

    traced : IsTraced program limits first s.origins opening
    traced = subst (IsTraced program limits first s.origins) (sym is) (record {
      led = tt;
      long = ap length all ∙ sym long;
      witnessed = subst (λ (ms : List Move). IsWitnessed program limits (pairs_in ms) x) (sym all) met;
    })

    one : (y : Waiting) (j : ℕ) → slice_get (opening ∷ []) j ≡ Some y → IsTraced program limits first s.origins y
    one y zero e = (let same : opening ≡ y = cc in subst (IsTraced program limits first s.origins) same traced)
    one y (suc j) e = absurd (cc)

-- a search that has the first state alone
first_state : (s : Stored) (w : World) (fresh : Bool) → AddsState s [] w fresh → HasStates s (w ∷ [])
first_state s w true adds = adds
first_state s w false adds = absurd (let none : None ≡ Some w = adds.1.1 in cc)

pub opened : (program : List ClassListing) (limits : Limits) (first : List Move) (stored : Stored) (fresh : Bool) (x : World)
    (depth : ℕ) → AddsState stored [] x fresh → IsWitnessed program limits (pairs_in first) x → depth ≡ length first
    → (opening : Waiting) → opening ≡ record { world = x; place = 0; level = 0; depth = depth } → (o : Origin)
    (old new : Search) → old ≡ record { stored = stored; origins = []; waiting = []; turns = 0 }
    → new ≡ kept old opening o → HasKnown program limits first new (x ∷ [])
opened program limits first stored fresh x depth adds met long opening is o old new empty one =
    let all : new ≡ record { stored = stored; origins = o ∷ []; waiting = opening ∷ []; turns = 0 } =
    one ∙ ap (λ (s : Search). kept s opening o) empty in
    opening_known program limits first new opening x depth o
    (subst (λ (s : Stored). HasStates s (x ∷ [])) (sym (ap (λ (s : Search). s.stored) all))
    (first_state stored x fresh adds)) met long is (ap (λ (s : Search). s.origins) all)
    (ap (λ (s : Search). s.waiting) all)

pub begins : (program : List ClassListing) (limits : Limits) (first : List Move) (no_room : Bool) (e : Exploration)
    (x : World) → IsWitnessed program limits (pairs_in first) x → HasKnown program limits first e.search (x ∷ [])
    → map world_of e.search.waiting ≡ x ∷ [] → e.outcomes ≡ record { keys = []; found = [] }
    → IsOnItsWay program limits first no_room e
begins program limits first no_room e x met has waits none = record {
  known = x ∷ [];
  expanded = 0;
  is = record {
    within = omega arith;
    has = has;
    waits = waits;
    closed = record {
      opening = record {
        world = start_of program limits first;
        ahead = stays (start_of program limits first);
        among = record { place = 0; state = x; there = refl; represents = met.represents };
      };
      expanded = λ k y t l there. absurd (omega (arith, l));
    };
    keyed = rw none refl;
    sound = nothing_yet e.outcomes.found (ap (λ (o : Outcomes). o.found) none);
    lists = λ k y l there. absurd (omega (arith, l));
  };
}
  where
    nothing_yet : (found : List Finding) → found ≡ [] → AreSoundAfter program limits first found
    nothing_yet [] k = record { real = λ j f q. absurd (cc); begin = λ j f q. absurd (cc); once = λ i j o q. absurd (cc) }
    nothing_yet (f ∷ found) k = absurd (cc)

-- ---- the next state is taken, or none waits

drop_one : (xs : List World) (n : ℕ) (y : World) (ys : List World) → y ∷ ys ≡ drop n xs
    → (slice_get xs n ≡ Some y) × (ys ≡ drop (n + 1) xs)
drop_one [] zero y ys e = absurd (cc)
drop_one [] (suc n) y ys e = absurd (cc)
drop_one (x ∷ xs) zero y ys e = (ap (λ (z : World). Some z) (let s : x ≡ y = cc in s), cc)
drop_one (x ∷ xs) (suc n) y ys e = (let k = drop_one xs n y ys e in let more : suc n + 1 ≡ suc (n + 1) = omega arith in (k.0, rw more k.1))

drop_none : (xs : List World) (n : ℕ) → [] ≡ drop n xs → length xs ≤ n
drop_none [] n e = omega arith
drop_none (x ∷ xs) zero e = absurd (cc)
drop_none (x ∷ xs) (suc n) e = (let k = drop_none xs n e in omega (arith, k))

module _ (program : List ClassListing) (limits : Limits) (first : List Move) (no_room : Bool) where
  pub taken_next : (old new : Exploration) (s : Waiting) → IsOnItsWay program limits first no_room old
      → old.search ≡ record new.search { waiting = s ∷ new.search.waiting } → new.outcomes ≡ old.outcomes
      → IsBefore program limits first no_room new s
  taken_next old new s way took kept =
      let n = way.expanded in
      let i = way.is in
      let waited = ap (λ (y : Search). y.waiting) took in
      let origins = ap (λ (y : Search). y.origins) took in
      let head = drop_one way.known n s.world (map world_of new.search.waiting)
      (sym (ap (map world_of) waited) ∙ i.waits) in
      let found = ap (λ (o : Outcomes). o.found) kept in
      record {
        known = way.known;
        expanded = n;
        there = head.0;
        traced = subst (λ (os : List Origin). IsTraced program limits first os s) origins
            (i.has.traced 0 s (ap (λ (xs : List Waiting). slice_get xs 0) waited));
        has = record {
          has = subst (λ (y : Search). HasStates y.stored way.known) took i.has.has;
          traced = λ j x e. subst (λ (os : List Origin). IsTraced program limits first os x) origins
              (i.has.traced (suc j) x (ap (λ (xs : List Waiting). slice_get xs (suc j)) waited ∙ e));
          count = sym (ap length origins) ∙ i.has.count;
        };
        waits = head.1;
        closed = i.closed;
        keyed = rw kept i.keyed;
        sound = subst (AreSoundAfter program limits first) (sym found) i.sound;
        lists = subst (λ (o : Outcomes). Lists program limits o way.known n) (sym kept) i.lists;
      }

  pub all_done : (old new : Exploration) → IsOnItsWay program limits first no_room old → old.search.waiting ≡ []
      → new.search.origins ≡ old.search.origins → new.outcomes ≡ old.outcomes
      → IsFurther program limits first no_room new false
  all_done old new way none origins kept =
      let n = way.expanded in
      let i = way.is in
      let past = drop_none way.known n (sym (ap (map world_of) none) ∙ i.waits) in
      let within = i.within in
      let all : n ≡ length way.known = omega (arith, past, within) in
      let closed = (searches_all program limits no_room (start_of program limits first)).ends way.known
      (subst (ClosedBelow program limits no_room (start_of program limits first) way.known) all i.closed) in
      let found = ap (λ (o : Outcomes). o.found) kept in (
        record {
          states = way.known;
          closed = closed;
          count_is = sym i.has.count ∙ sym (ap length origins);
          told = subst (λ (fs : List Finding). TellsOutcomes program limits no_room (start_of program limits first) (map outcome_of fs)) (sym found)
              (outcomes_of_all program limits no_room (start_of program limits first) way.known (map outcome_of old.outcomes.found) closed
              (λ k x there halted. i.lists k x (let l = get_below way.known k x there in omega (arith, l, all)) there halted));
        },
        subst (AreSoundAfter program limits first) (sym found) i.sound,
      )

  -- ---- a state was expanded

  module _ (old : Exploration) (s : Waiting) (b : IsBefore program limits first no_room old s) (search : Search) (moved : Bool)
      (x : ExpandsAll program limits first no_room old.search search b.known s.world moved) where
    all_known : List World
    all_known = b.known ++ x.grows.more

    still_there : slice_get all_known b.expanded ≡ Some s.world
    unfolding all_known
    still_there = below b.known x.grows.more b.expanded s.world b.there

    stays_closed : ClosedBelow program limits no_room (start_of program limits first) all_known b.expanded
    unfolding all_known
    stays_closed = go b.known x.grows.more (get_below b.known b.expanded s.world b.there) b.closed
      where
        go : (known more : List World) → b.expanded < length known → ClosedBelow program limits no_room (start_of program limits first) known b.expanded
            → ClosedBelow program limits no_room (start_of program limits first) (known ++ more) b.expanded
        go known [] l c = subst (λ (xs : List World). ClosedBelow program limits no_room (start_of program limits first) xs b.expanded)
            (sym (nothing known)) c
          where
            nothing : (xs : List World) → xs ++ [] ≡ xs
            nothing [] = refl
            nothing (y ∷ ys) = ap (λ zs. y ∷ zs) (nothing ys)
        go known (y ∷ more) l c = subst (λ (xs : List World). ClosedBelow program limits no_room (start_of program limits first) xs b.expanded)
            (append_assoc known (y ∷ []) more)
            (go (known ++ y ∷ []) more (let k = length-append known (y ∷ []) in omega (arith, k, l))
            ((searches_all program limits no_room (start_of program limits first)).found known b.expanded y (omega (arith, l)) c))

    goes_on : (outcomes : Outcomes) → map key_of outcomes.found ≡ outcomes.keys
        → AreSoundAfter program limits first outcomes.found
        → ((p : Observed) → IsOutcome (map outcome_of old.outcomes.found) p → IsOutcome (map outcome_of outcomes.found) p)
        → (IsHalted program limits s.world → IsOutcome (map outcome_of outcomes.found) (observed program s.world))
        → IsOnItsWay program limits first no_room (record { search = search; outcomes = outcomes })
    unfolding all_known
    goes_on outcomes keyed sound more now =
        let n = b.expanded in
        let l = get_below b.known n s.world b.there in
        let size = length-append b.known x.grows.more in
        record {
          known = all_known;
          expanded = n + 1;
          is = record {
            within = omega (arith, l, size);
            has = x.grows.has;
            waits = x.grows.waits ∙ ap (λ ws. ws ++ x.grows.more) b.waits
                ∙ sym (drop-append-le (n + 1) b.known x.grows.more (omega (arith, l)));
            closed = (searches_all program limits no_room (start_of program limits first)).looked_at all_known n s.world still_there x.expanded stays_closed;
            keyed = keyed;
            sound = sound;
            lists = λ k y below there halted. (elim (cases_lt k n) [
              | inl before ↦ more (observed program y) (b.lists k y before (older b.known x.grows.more k y
                  (omega (arith, before, l)) there) halted)
              | inr past ↦ (let same : k ≡ n = omega (arith, below, past) in
                  let is : s.world ≡ y = some_is (sym still_there ∙ ap (slice_get all_known) (sym same) ∙ there) in
                  subst (λ (z : World). IsOutcome (map outcome_of outcomes.found) (observed program z)) is
                  (now (subst (IsHalted program limits) (sym is) halted)))
            ]);
          };
        }
      where
        some_is : {y z : World} → Some y ≡ Some z → y ≡ z
        some_is e = cc

        older : (xs ys : List World) (k : ℕ) (y : World) → k < length xs → slice_get (xs ++ ys) k ≡ Some y
            → slice_get xs k ≡ Some y
        older [] ys k y under e = absurd (omega (arith, under))
        older (z ∷ xs) ys zero y under e = e
        older (z ∷ xs) ys (suc k) y under e = older xs ys k y (omega (arith, under)) e

    pub moved_on : moved ≡ true → IsOnItsWay program limits first no_room (record { search = search; outcomes = old.outcomes })
    moved_on some = goes_on old.outcomes b.keyed b.sound (λ p there. there)
        (λ halted. absurd (halted_has_none program limits s.world
        (subst (SomeMoves program limits s.world) some x.moves) halted))

    pub halted_real : moved ≡ false → s.depth < limits.steps
        → IsReal program limits (pairs_in (way_to first search.origins s)) (observed program s.world)
    halted_real none under =
        let r = traced_after program limits first old.search search b.known x.grows s b.traced in
        let zero_rows = no_rows program limits first search.origins s r in
        outcomes_are_real program limits (pairs_in (way_to first search.origins s)) s.world r.witnessed
        (no_turn_halts program limits s.world (omega (arith, zero_rows, under))
        (subst (SomeMoves program limits s.world) none x.moves))

    pub noted_on : moved ≡ false → s.depth < limits.steps → IsOnItsWay program limits first no_room (record {
      search = search;
      outcomes = noted old.outcomes (observed program s.world) (way_to first search.origins s);
    })
    noted_on none under =
        let moves = way_to first search.origins s in
        let o = observed program s.world in
        let k = notes program limits first old.outcomes o moves b.keyed b.sound (halted_real none under)
        (trail search.origins s.level s.place, refl) in
        goes_on (noted old.outcomes o moves) k.keyed k.sound k.more (λ halted. k.there)

-- ---- what is reported

module _ (program : List ClassListing) (limits : Limits) (first : List Move) (no_room : Bool) (e : Exploration) where
  pub over_complete : (cut : Option Cut) (r : Report) → IsOver program limits first no_room e cut → r ≡ report_of e cut
      → r.cut ≡ None → IsCompleteAfter program limits first no_room r.states (outcomes_in r)
  over_complete None r over is k =
      subst (λ (x : Report). IsCompleteAfter program limits first no_room x.states (outcomes_in x)) (sym is) over.0
  over_complete (Some c) r over is k = absurd (let q = sym k ∙ ap (λ (x : Report). x.cut) is in cc)

  pub over_sound : (cut : Option Cut) (r : Report) → IsOver program limits first no_room e cut → r ≡ report_of e cut
      → AreSoundAfter program limits first r.found
  over_sound None r over is = subst (AreSoundAfter program limits first) (sym (ap (λ (x : Report). x.found) is)) over.1
  over_sound (Some c) r over is = subst (AreSoundAfter program limits first) (sym (ap (λ (x : Report). x.found) is)) over
