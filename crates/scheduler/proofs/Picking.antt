-- Which thread is picked, what is answered where none is, and what where the journal has no room for a row.
use Rattle.std.proofs.Common.{◌≡◌, ◌+◌, ℕ, zero, suc, List, [], ◌∷◌, ◌++◌, arith, take, drop, Bool, true, false, ◌&&◌, ◌||◌, Option, Some, None}
use Rattle.std.proofs.Common.{is_some, is_none, not, refl, ap, sym, ◌∙◌}
use Rattle.std.specs.Prelude.{IfSome, if◌then◌else◌, nat_le, slice_get}
use Rattle.std.specs.List.{find, list_any}
use Rattle.std.proofs.Math.Bool.{or_comm}
use Rattle.std.proofs.lemmas.List.{take-append-drop}
use Rattle.std.proofs.lemmas.List.Folds.{list_any-append}
use Rattle.model.specs.ClassListings.{ClassListing}
use Rattle.model.specs.Completions.{waits}
use Rattle.model.specs.declared.journals.Limits.{Limits}
use Rattle.model.specs.declared.turns.Actor.{Actor}
use Rattle.model.specs.declared.turns.Actor.TheVariants.{Thread, Collector}
use Rattle.model.specs.declared.turns.Fault.{Fault}
use Rattle.model.specs.declared.turns.Turn.{Turn}
use Rattle.model.specs.declared.turns.Turn.TheVariants.{Done, NotReady, OutputFull, StepLimit}
use Rattle.model.specs.Collector.Runs.{advance_if, moved_by}
use Rattle.model.specs.Machines.{Machine, Recorded, after_turn_by, answer_to, answer_unless_refused, machine_of}
use Rattle.model.specs.Machines.{reported_of, row_unless_refused, with_row}
use Rattle.model.specs.Observers.{after_last, cyclic_from, ideal, is_running, pick_of, status_by, status_in}
use Rattle.model.specs.Observers.{status_of}
use Rattle.model.specs.Ready.{is_ready, numbers_from, some_is_ready, some_lives, thread_numbers}
use Rattle.model.specs.Table.Next.{completion}
use Rattle.model.specs.Effects.Choice.{NewObject}
use Rattle.model.specs.Turns.{actor_refusal, overflows, refusal, refusal_after, thread_refusal, unless_refused}
use Rattle.model.specs.Worlds.{Thread as ThreadOf, World, is_live, lives}
use Rattle.model.proofs.CollectorLemmas.Running.{machine_of-turn}
use Rattle.instructions.proofs.CyclicLemmas.{some-found}
use Rattle.instructions.proofs.Waiting.{ready_lives}
use Rattle.scheduler.specs.Rounds.{answered_by, is_done, picked, picked_answer, turned_by}

-- ---- a world runs where a thread is picked

some_turned : (p : ℕ → Bool) (n : ℕ) (ts : List ℕ) → is_some (find p (cyclic_from n ts)) ≡ list_any p ts
some_turned p n ts =
    some-found p (drop n ts ++ take n ts)
    ∙ list_any-append p (drop n ts) (take n ts)
    ∙ or_comm (list_any p (drop n ts)) (list_any p (take n ts))
    ∙ sym (list_any-append p (take n ts) (drop n ts))
    ∙ ap (list_any p) (take-append-drop n ts)

some_picked : (v : Recorded) → is_some (pick_of v) ≡ some_is_ready v.program (ideal v)
some_picked v = some_turned (is_ready v.program (ideal v)) (after_last 0 v.journal.rows) (thread_numbers (ideal v))

-- one that is ready lives
lives_or : (unfaulted live free ready lives : Bool) → (ready ≡ true → lives ≡ true)
    → ((unfaulted && live && free) || ready) ≡ true → (live || lives) ≡ true
lives_or unfaulted true free ready lives h e = refl
lives_or true false free ready lives h e = h e
lives_or false false free ready lives h e = h e

any_lives : (program : List ClassListing) (w : World) (ts : List ℕ) → list_any (is_ready program w) ts ≡ true
    → list_any (is_live w) ts ≡ true
any_lives program w [] e = absurd (cc)
any_lives program w (t ∷ ts) e =
    let ready = list_any (is_ready program w) ts in
    lives_or (is_none w.fault) (is_live w t) (not (waits (completion program w t))) ready (list_any (is_live w) ts)
    (any_lives program w ts) e

-- and follows no fault
unfaulted_or : (unfaulted live free ready : Bool) → (ready ≡ true → unfaulted ≡ true)
    → ((unfaulted && live && free) || ready) ≡ true → unfaulted ≡ true
unfaulted_or true live free ready h e = refl
unfaulted_or false live free ready h e = h e

any_unfaulted : (program : List ClassListing) (w : World) (ts : List ℕ) → list_any (is_ready program w) ts ≡ true
    → is_none w.fault ≡ true
any_unfaulted program w [] e = absurd (cc)
any_unfaulted program w (t ∷ ts) e =
    unfaulted_or (is_none w.fault) (is_live w t) (not (waits (completion program w t)))
    (list_any (is_ready program w) ts) (any_unfaulted program w ts) e

running_by : (fault : Option (Fault × ℕ)) (lives ready : Bool) → (ready ≡ true → is_none fault ≡ true)
    → (ready ≡ true → lives ≡ true) → is_running (status_by (is_some fault) lives ready) ≡ ready
running_by None true true f l = refl
running_by None true false f l = refl
running_by None false true f l = l refl
running_by None false false f l = refl
running_by (Some fault) lives true f l = f refl
running_by (Some fault) lives false f l = refl

pub running_ready : (program : List ClassListing) (w : World) → is_running (status_in program w)
    ≡ some_is_ready program w
running_ready program w =
    running_by w.fault (some_lives w) (some_is_ready program w)
    (any_unfaulted program w (thread_numbers w)) (any_lives program w (thread_numbers w))

pub running_picks : (v : Recorded) → is_running (status_of v) ≡ is_some (pick_of v)
running_picks v = running_ready v.program (ideal v) ∙ sym (some_picked v)

-- from whichever thread on one is looked for
pub running_from : (program : List ClassListing) (w : World) (n : ℕ)
    → is_some (find (is_ready program w) (cyclic_from n (thread_numbers w))) ≡ is_running (status_in program w)
running_from program w n = some_turned (is_ready program w) n (thread_numbers w) ∙ sym (running_ready program w)

-- and where some thread is ready
any_numbered : (p : ℕ → Bool) (n : ℕ) (threads : List ThreadOf) (t : ℕ) → lives (slice_get threads t) ≡ true
    → p (n + t) ≡ true → list_any p (numbers_from n threads) ≡ true
any_numbered p n [] t live e = absurd (cc)
any_numbered p n (x ∷ threads) zero live e =
    let here : n + 0 ≡ n = omega arith in
    ap (λ b. b || list_any p (numbers_from (n + 1) threads)) (ap p (sym here) ∙ e)
any_numbered p n (x ∷ threads) (suc t) live e =
    let there : n + 1 + t ≡ n + suc t = omega arith in
    or_comm (p n) (list_any p (numbers_from (n + 1) threads))
    ∙ ap (λ b. b || p n) (any_numbered p (n + 1) threads t live (ap p there ∙ e))

pub ready_runs : (program : List ClassListing) (w : World) (t : ℕ) → is_ready program w t ≡ true
    → is_running (status_in program w) ≡ true
ready_runs program w t e =
    let itself : 0 + t ≡ t = omega arith in
    running_ready program w
    ∙ any_numbered (is_ready program w) 0 w.threads t (ready_lives program w t e)
    (ap (is_ready program w) itself ∙ e)

-- ---- where it doesn't run nothing is made

turned_by_none : (v : Recorded) (worker : ℕ) (o : Option ℕ) → is_some o ≡ false → turned_by v worker o ≡ v
turned_by_none v worker None e = refl
turned_by_none v worker (Some t) e = absurd (cc)

answered_by_none : (v : Recorded) (worker : ℕ) (o : Option ℕ) → is_some o ≡ false → answered_by v worker o ≡ NotReady
answered_by_none v worker None e = refl
answered_by_none v worker (Some t) e = absurd (cc)

module _ (v : Recorded) (worker : ℕ) (rests : is_running (status_of v) ≡ false) where
  pub rests-picked : picked v worker ≡ v
  rests-picked = turned_by_none v worker (pick_of v) (sym (running_picks v) ∙ rests)

  pub rests-answer : picked_answer v worker ≡ NotReady
  rests-answer = answered_by_none v worker (pick_of v) (sym (running_picks v) ∙ rests)

-- ---- where it runs the picked thread's turn isn't refused as one that isn't ready

found_passes : (p : ℕ → Bool) (xs : List ℕ) (x : ℕ) → find p xs ≡ Some x → p x ≡ true
found_passes p [] x e = absurd (cc)
found_passes p (y ∷ ys) x e = by (found_passes p ys x) (p y) refl e
  where
    by : (find p ys ≡ Some x → p x ≡ true) → (b : Bool) → p y ≡ b → (if b then Some y else find p ys) ≡ Some x
        → p x ≡ true
    by later true is found = cc
    by later false is found = later found

-- which is ready
pub picked_ready : (v : Recorded) (o : Option ℕ) → o ≡ pick_of v
    → IfSome o (λ t. is_ready v.program (ideal v) t ≡ true)
picked_ready v None e = tt
picked_ready v (Some t) e =
    found_passes (is_ready v.program (ideal v)) (cyclic_from (after_last 0 v.journal.rows) (thread_numbers (ideal v))) t
    (sym e)

module _ (program : List ClassListing) (limits : Limits) (w : World) (t : ℕ) (ready : is_ready program w t ≡ true) where
  by_limit : (b : Bool) → (if b then Some StepLimit else thread_refusal program limits w t) ≡ Some NotReady → ⊥
  by_limit true e = cc
  by_limit false e = by_output (overflows program limits w t) (rw ready at e)
    where
      by_output : (b : Bool) → (if b then Some OutputFull else None) ≡ Some NotReady → ⊥
      by_output true e = cc
      by_output false e = cc

  by_fault : (o : Option (Fault × ℕ)) → refusal_after program limits w (Thread t) o ≡ Some NotReady → ⊥
  by_fault None e = by_limit (nat_le limits.steps w.rows) e
  by_fault (Some fault) e = cc

  never_unready : refusal program limits w (Thread t) ≡ Some NotReady → ⊥
  unfolding refusal
  never_unready e = by_fault w.fault e

reported_ready : (fault : Option (Fault × ℕ)) → reported_of fault ≡ NotReady → ⊥
reported_ready None e = cc
reported_ready (Some fault) e = cc

answered_ready : (after : Recorded) (o : Option Turn) → (o ≡ Some NotReady → ⊥) → answer_unless_refused after o ≡ NotReady
    → ⊥
answered_ready after None h e = reported_ready (machine_of after).world.fault e
answered_ready after (Some refused) h e = h (ap (λ (r : Turn). Some r) e)

pub ready_answer : (v : Recorded) (worker : ℕ) → is_running (status_of v) ≡ true → picked_answer v worker ≡ NotReady → ⊥
unfolding answer_to
ready_answer v worker runs e = by (pick_of v) refl (sym (running_picks v) ∙ runs) e
  where
    by : (o : Option ℕ) → pick_of v ≡ o → is_some o ≡ true → answered_by v worker o ≡ NotReady → ⊥
    by None is some answer = cc
    by (Some t) is some answer =
        answered_ready (after_turn_by v (Thread t) worker) (refusal v.program v.journal.limits (ideal v) (Thread t))
        (never_unready v.program v.journal.limits (ideal v) t
        (found_passes (is_ready v.program (ideal v)) (cyclic_from (after_last 0 v.journal.rows)
        (thread_numbers (ideal v))) t is))
        answer

-- ---- a turn of the collector that isn't done

-- a turn that is refused changes nothing
module _ (v : Recorded) (actor : Actor) (worker : ℕ) (r : Turn)
    (refused : refusal v.program v.journal.limits (ideal v) actor ≡ Some r) where
  pub refused-world : after_turn_by v actor worker ≡ v
  unfolding after_turn_by
  refused-world = ap (λ o. with_row v (row_unless_refused v.program (machine_of v) actor worker o)) refused

  pub refused-answer : answer_to v actor worker ≡ r
  unfolding answer_to
  refused-answer = ap (answer_unless_refused (after_turn_by v actor worker)) refused

-- the journal has no room for a row, so no thread's turn is done either
pub record NoRowLeft (v : Recorded) (worker : ℕ) : Type 0 where
  pub same : after_turn_by v Collector worker ≡ v
  pub picked_same : picked v worker ≡ v
  pub answer_same : picked_answer v worker ≡ answer_to v Collector worker

faultless_by : (fault : Option (Fault × ℕ)) (lives ready : Bool) → is_running (status_by (is_some fault) lives ready)
    ≡ true → fault ≡ None
faultless_by None lives ready e = refl
faultless_by (Some fault) lives ready e = absurd (cc)

module _ (v : Recorded) (worker : ℕ) (runs : is_running (status_of v) ≡ true) where
  pub faultless : (ideal v).fault ≡ None
  faultless = faultless_by (ideal v).fault (some_lives (ideal v)) (some_is_ready v.program (ideal v)) runs

  refusal_is : (actor : Actor) (full : Bool) → nat_le v.journal.limits.steps (ideal v).rows ≡ full
      → refusal v.program v.journal.limits (ideal v) actor
      ≡ (if full then Some StepLimit else actor_refusal v.program v.journal.limits (ideal v) actor)
  unfolding refusal
  refusal_is actor full is =
      ap (refusal_after v.program v.journal.limits (ideal v) actor) faultless
      ∙ ap (λ b. if b then Some StepLimit else actor_refusal v.program v.journal.limits (ideal v) actor) is

  -- where there is room the collector's turn is done
  moved_fault : refusal v.program v.journal.limits (ideal v) Collector ≡ None
      → (moved_by v.program v.journal.shape v.journal.limits (machine_of v) Collector).world.fault ≡ (ideal v).fault
  unfolding moved_by
  moved_fault none =
      let m = machine_of v in
      ap (λ (o : Option Turn). (advance_if v.program v.journal.shape v.journal.limits m
      (row_unless_refused v.program m Collector 0 o)).world.fault) none
      ∙ ap (λ (o : Option Turn). (unless_refused v.program m.world Collector NewObject o).fault) none

  pub collector_done : nat_le v.journal.limits.steps (ideal v).rows ≡ false → answer_to v Collector worker ≡ Done
  unfolding answer_to
  collector_done room =
      let none : refusal v.program v.journal.limits (ideal v) Collector ≡ None = refusal_is Collector false room in
      ap (answer_unless_refused (after_turn_by v Collector worker)) none
      ∙ ap (λ (m : Machine). reported_of m.world.fault) (machine_of-turn v Collector worker)
      ∙ ap reported_of (moved_fault none ∙ faultless)

  pub no_row_left : is_done (answer_to v Collector worker) ≡ false → NoRowLeft v worker
  no_row_left stops = by (nat_le v.journal.limits.steps (ideal v).rows) refl
    where
      turned_same : nat_le v.journal.limits.steps (ideal v).rows ≡ true → (o : Option ℕ) → turned_by v worker o ≡ v
      turned_same full None = refl
      turned_same full (Some t) = refused-world v (Thread t) worker StepLimit (refusal_is (Thread t) true full)

      answered : nat_le v.journal.limits.steps (ideal v).rows ≡ true → (o : Option ℕ) → is_some o ≡ true
          → answered_by v worker o ≡ StepLimit
      answered full None some = absurd (cc)
      answered full (Some t) some = refused-answer v (Thread t) worker StepLimit (refusal_is (Thread t) true full)

      by : (full : Bool) → nat_le v.journal.limits.steps (ideal v).rows ≡ full → NoRowLeft v worker
      by true full = record {
        same = refused-world v Collector worker StepLimit (refusal_is Collector true full);
        picked_same = turned_same full (pick_of v);
        answer_same =
            answered full (pick_of v) (sym (running_picks v) ∙ runs)
            ∙ sym (refused-answer v Collector worker StepLimit (refusal_is Collector true full));
      }
      by false room = let done = ap is_done (collector_done room) in absurd (cc)
