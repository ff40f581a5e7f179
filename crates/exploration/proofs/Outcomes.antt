use Rattle.std.proofs.Common.{◌≡◌, ℕ, zero, suc, ◌+◌, List, [], ◌∷◌, ◌++◌, slice_get, is_some, is_none, Bool, true, false, not}
use Rattle.std.proofs.Common.{◌&&◌, ◌||◌, if◌then◌else◌, Option, Some, None, refl, sym, ◌∙◌, ap, subst, arith}
use Rattle.std.specs.List.{list_any}
use Rattle.model.specs.declared.turns.Fault.{Fault}
use Rattle.model.specs.declared.journals.Limits.{Limits}
use Rattle.model.specs.declared.turns.Status.{Status}
use Rattle.model.specs.declared.turns.Turn.TheVariants.{NotReady, OutputFull}
use Rattle.model.specs.ClassListings.{ClassListing}
use Rattle.model.specs.Collector.Runs.{machine_after}
use Rattle.model.specs.Completions.{waits}
use Rattle.model.specs.Observers.{status_by, status_in}
use Rattle.model.specs.Ready.{is_ready, some_is_ready, some_lives, numbers_from, thread_numbers}
use Rattle.model.specs.Turns.{overflows}
use Rattle.model.specs.Table.Next.{completion}
use Rattle.model.specs.Worlds.{World, Thread, is_live, lives}
use Rattle.model.specs.Worlds.Thread.{Live, Ended}
use Rattle.exploration.specs.declared.ends.End.{End}
use Rattle.exploration.specs.Observations.{IsHalted, Observed, observed}
use Rattle.exploration.specs.Outcomes.{HasOutcomes, IsAtRest, IsOutcome, OutcomesAreReal, OutcomesOfAll, RestIsHalted}
use Rattle.exploration.specs.Outcomes.{TellsOutcomes, runs_on}
use Rattle.exploration.specs.ReducedRuns.{ShowsSameEnd}
use Rattle.exploration.specs.Representation.{uncounted}
use Rattle.exploration.specs.ClosedLists.{ComesTo, ideal_after}
use Rattle.exploration.proofs.Observations.{observed_same, status_at}
use Rattle.exploration.proofs.ReducedRuns.{reduced_shows_all}
use Rattle.exploration.proofs.ClosedLists.{runs_come, same_thread_refusal}
use Rattle.exploration.proofs.RowCounts.{refused_at}

-- a run that has come to rest has an outcome that is listed

either_false : (a b : Bool) → (a || b) ≡ false → (a ≡ false) × (b ≡ false)
either_false true b e = absurd (cc)
either_false false b e = (refl, e)

none_passes : (f : ℕ → Bool) → ((t : ℕ) → f t ≡ false) → (ts : List ℕ) → list_any f ts ≡ false
none_passes f k [] = refl
none_passes f k (t ∷ ts) = rw (k t, none_passes f k ts) refl

module _ (program : List ClassListing) (w : World) where
  -- no thread is ready in a world with a fault, nor a thread that doesn't live
  of_fault : (fault : Fault × ℕ) → w.fault ≡ Some fault → (t : ℕ) → is_ready program w t ≡ false
  of_fault fault e t = ap (λ (o : Option (Fault × ℕ)). is_none o && is_live w t && not (waits (completion program w t))) e

  ready_of : (a b c : Bool) → b ≡ false → (a && b && c) ≡ false
  ready_of a true c e = absurd (cc)
  ready_of true false c e = refl
  ready_of false false c e = refl

  of_dead : (ts : List ℕ) → list_any (is_live w) ts ≡ false → list_any (is_ready program w) ts ≡ false
  of_dead [] e = refl
  of_dead (t ∷ ts) e =
      let h = (either_false (is_live w t) (list_any (is_live w) ts) e).0 in
      let one = ready_of (is_none w.fault) (is_live w t) (not (waits (completion program w t))) h in
      let rest = of_dead ts (either_false (is_live w t) (list_any (is_live w) ts) e).1 in
      rw (one, rest) refl

  none_ready : IsAtRest program w → some_is_ready program w ≡ false
  none_ready rest = by w.fault (some_lives w) (some_is_ready program w) refl refl refl rest
    where
      by : (fault : Option (Fault × ℕ)) (lives ready : Bool) → w.fault ≡ fault → some_lives w ≡ lives
          → some_is_ready program w ≡ ready → runs_on (status_by (is_some fault) lives ready) ≡ false
          → some_is_ready program w ≡ false
      by (Some fault) lives ready e f g k = none_passes (is_ready program w) (of_fault fault e) (thread_numbers w)
      by None false ready e f g k = of_dead (thread_numbers w) f
      by None true false e f g k = g
      by None true true e f g k = absurd (cc)

-- so no thread of a world at rest can go on

numbered : (f : ℕ → Bool) (n : ℕ) (ts : List Thread) → list_any f (numbers_from n ts) ≡ false → (t : ℕ) (x : Thread)
    → slice_get ts t ≡ Some x → f (n + t) ≡ false
numbered f n [] e t x k = absurd (cc)
numbered f n (y ∷ ts) e zero x k = (let s : n + 0 ≡ n = omega arith in rw s (either_false (f n) _ e).0)
numbered f n (y ∷ ts) e (suc t) x k = (let s : n + suc t ≡ n + 1 + t = omega arith in rw s
    (numbered f (n + 1) ts (either_false (f n) _ e).1 t x k))

ready_thread : (fault : Option (Fault × ℕ)) (o : Option Thread) (wait full : Bool)
    → (if is_none fault && lives o && not wait then (if full then Some OutputFull else None) else Some NotReady) ≡ None
    → ((x : Thread) × (o ≡ Some x)) × ((is_none fault && lives o && not wait) ≡ true)
ready_thread (Some fault) o wait full e = absurd (cc)
ready_thread None None wait full e = absurd (cc)
ready_thread None (Some (Ended by)) wait full e = absurd (cc)
ready_thread None (Some (Live fs)) true full e = absurd (cc)
ready_thread None (Some (Live fs)) false full e = ((Live fs, refl), refl)

pub rest_is_halted : RestIsHalted
rest_is_halted program limits w rest t e =
    let k = ready_thread w.fault (slice_get w.threads t) (waits (completion program w t)) (overflows program limits w t) e in
    let none = numbered (is_ready program w) 0 w.threads (none_ready program w rest) t k.0.0 k.0.1 in
    let at : 0 + t ≡ t = omega arith in
    both_ways (is_ready program w t) k.1 (subst (λ (n : ℕ). is_ready program w n ≡ false) at none)
  where
    both_ways : (b : Bool) → b ≡ true → b ≡ false → ⊥
    both_ways true e k = cc
    both_ways false e k = cc

-- what is observed is observed of a world whose rows are counted

pub halted_uncounted : (program : List ClassListing) (limits : Limits) (w : World) → IsHalted program limits w
    → IsHalted program limits (uncounted w)
halted_uncounted program limits w halted t e = halted t (sym (refused_at program w t limits) ∙ e)

pub observed_counted : (program : List ClassListing) (w : World) → observed program (uncounted w) ≡ observed program w
observed_counted program w =
    ap (λ (t : Status). let y : Observed = record (observed program w) { status = t } in y) (status_at program w)

-- the outcomes of all that the turns of a start lead to are those of all runs that pass through it

module _ (program : List ClassListing) (limits : Limits) (no_room : Bool) (start : World) (outcomes : List Observed) where
  pub tells_outcomes : ((w : World) → ComesTo program limits no_room start w → IsHalted program limits w
      → IsOutcome outcomes (observed program w)) → TellsOutcomes program limits no_room start outcomes
  tells_outcomes all =
      let come = runs_come program limits no_room start in
      record {
        worlds = all;
        runs = λ before after e room halted. counted (ideal_after program limits (before ++ after))
            (come.0 before after e room) halted;
        machines = λ shape before after e room halted. counted (machine_after program shape limits (before ++ after)).world
            (come.1 shape before after e room) halted;
      }
    where
      counted : (w : World) → ComesTo program limits no_room start (uncounted w) → IsHalted program limits w
          → IsOutcome outcomes (observed program w)
      counted w c halted = subst (IsOutcome outcomes) (observed_counted program w)
          (all (uncounted w) c (halted_uncounted program limits w halted))

  -- more outcomes tell all the more
  pub tells_more : TellsOutcomes program limits no_room start outcomes → (more : List Observed)
      → ((o : Observed) → IsOutcome outcomes o → IsOutcome more o) → TellsOutcomes program limits no_room start more
  tells_more told more all = record {
    worlds = λ w c halted. all _ (told.worlds w c halted);
    runs = λ before after e room halted. all _ (told.runs before after e room halted);
    machines = λ shape before after e room halted. all _ (told.machines shape before after e room halted);
  }

-- what is observed of a run in which no thread can go on is listed

module _ (program : List ClassListing) (limits : Limits) (states : List World) (outcomes : List Observed)
    (has : HasOutcomes program limits states outcomes) (w : World) (halted : IsHalted program limits w) where
  listed : ShowsSameEnd program limits states w → IsOutcome outcomes (observed program w)
  listed s =
      let x = s.state in
      let same : status_in program x ≡ status_in program w = s.status halted in
      let all : observed program x ≡ observed program w =
      ap (λ (bs : List ℕ). let y : Observed = record (observed program x) { output = bs } in y) s.output
      ∙ ap (λ (o : Option (Fault × ℕ)).
      let y : Observed = record (observed program x) { output = w.output; fault = o } in y) s.fault
      ∙ ap (λ (es : List End).
      let y : Observed = record (observed program w) { ends = es; status = status_in program x } in y) s.ends
      ∙ ap (λ (t : Status). let y : Observed = record (observed program w) { status = t } in y) same in
      let found = has s.place x s.there (s.halted halted) in
      subst (IsOutcome outcomes) all found

pub outcomes_of_all : OutcomesOfAll
outcomes_of_all program limits no_room start states outcomes closed has =
    let shown = reduced_shows_all program limits no_room start states closed in
    tells_outcomes program limits no_room (uncounted start) outcomes
    (λ w c halted. listed program limits states outcomes has w halted (shown w c))

pub outcomes_are_real : OutcomesAreReal
outcomes_are_real program limits pairs x s halted =
    let w = ideal_after program limits pairs in record {
      observed = observed_same program limits x (uncounted w) s.represents ∙ observed_counted program w;
      halted = λ t e. halted t (same_thread_refusal program limits x (uncounted w) s.represents t
          ∙ refused_at program w t limits ∙ e);
      made = s.counted;
    }
