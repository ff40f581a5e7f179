-- The choice that a row tells, and that a fault's row is the last one that a run makes.
use Rattle.std.proofs.Common.{◌≡◌, ◌≢◌, ℕ, List, [], ◌∷◌, ◌++◌, Bool, true, false, true≢false, Option, Some, None}
use Rattle.std.proofs.Common.{is_some, All, refl, ap, sym, ◌∙◌, ◌<◌, zero, suc, length, get_or, arith}
use Rattle.model.specs.declared.journals.HeapShape.{HeapShape}
use Rattle.model.specs.declared.journals.Limits.{Limits}
use Rattle.model.specs.declared.journals.Row.{Row}
use Rattle.model.specs.declared.journals.Outcome.{Outcome}
use Rattle.model.specs.declared.journals.Outcome.TheVariants.{Done, Object, NoRoom, Fault}
use Rattle.model.specs.declared.turns.Actor.{Actor}
use Rattle.model.specs.declared.turns.Actor.TheVariants.{Thread, Collector}
use Rattle.model.specs.declared.turns.Fault.{Fault as FaultKind}
use Rattle.model.specs.declared.turns.Turn.{Turn}
use Rattle.model.specs.ClassListings.{ClassListing}
use Rattle.model.specs.Worlds.{World, counted}
use Rattle.model.specs.Effects.Choice.{NewObject, NoRoom as NoneHasRoom}
use Rattle.model.specs.Effects.{Choice}
use Rattle.model.specs.Accounts.{has_room}
use Rattle.model.specs.Table.Next.{asked, next}
use Rattle.model.specs.Machines.{Machine, Recorded, advance, advance_all, machine_of, machine_of-noted, noted}
use Rattle.model.specs.Machines.{opening_machine, outcome_asked, outcome_by, outcome_if, row_by, row_unless_refused}
use Rattle.model.specs.Turns.{acted, choice_by, choice_of, faulting, ideal_step, is_fault, refusal, refusal_after}
use Rattle.model.specs.Turns.{unless_refused}
use Rattle.ideal_run.specs.Runs.{Run, opening_run, run_after}
use Rattle.comparison.specs.Checking.{IsNoFault, reference_of, run_of, reported_choice}
use Rattle.scheduler.specs.Replaying.{AreMade, IsMade, with_all}
use Rattle.scheduler.proofs.Making.{of_next}
use Rattle.std.proofs.lemmas.List.Elements.{All-from_get_or}

some≢none : (f : Option (FaultKind × ℕ)) → is_some f ≡ true → f ≡ None → ⊥
some≢none f some none = true≢false (sym some ∙ ap is_some none)

abbrev outcome_or : Outcome → Option Row → Outcome
outcome_or other None = other
outcome_or other (Some row) = row.outcome

abbrev is_at_fault : Outcome → Bool
is_at_fault Done = false
is_at_fault Object = false
is_at_fault NoRoom = false
is_at_fault Fault = true

other_than_fault : (o : Outcome) → is_at_fault o ≡ false → o ≢ Fault
other_than_fault o other e = true≢false (sym (ap is_at_fault e) ∙ other)

-- where a choice faults, the choice of a fault does
choice_faults : (f : Choice → Bool) (c : Choice) → f c ≡ true → f (faulting (f NewObject)) ≡ true
choice_faults f NewObject e = ap (λ b. f (faulting b)) e ∙ e
choice_faults f NoneHasRoom e = by (f NewObject) refl
  where
    by : (b : Bool) → f NewObject ≡ b → f (faulting b) ≡ true
    by true is = is
    by false is = e

module _ (program : List ClassListing) (limits : Limits) (w : World) where
  -- choices by which an actor's turn comes to the same
  same_step : (actor : Actor) (a b : Choice) → acted program w actor a ≡ acted program w actor b
      → ideal_step program limits w actor a ≡ ideal_step program limits w actor b
  same_step actor a b e = by (refusal program limits w actor)
    where
      by : (r : Option Turn) → unless_refused program w actor a r ≡ unless_refused program w actor b r
      by (Some refused) = refl
      by None = ap counted e

  -- a row that isn't at fault tells its choice
  pub step_reported : (actor : Actor) (outcome : Outcome) → outcome ≢ Fault
      → ideal_step program limits w actor (reported_choice outcome)
      ≡ ideal_step program limits w actor (choice_by program w actor outcome)
  step_reported (Thread t) Done other = refl
  step_reported (Thread t) Object other = refl
  step_reported (Thread t) NoRoom other = refl
  step_reported (Thread t) Fault other = absurd (other refl)
  step_reported Collector outcome other = same_step Collector (reported_choice outcome) NewObject refl

  -- a turn with room that comes to no fault: that of a row at fault had none
  pub step_without_room : (actor : Actor) → (ideal_step program limits w actor NewObject).fault ≡ None
      → ideal_step program limits w actor NoneHasRoom
      ≡ ideal_step program limits w actor (choice_by program w actor Fault)
  step_without_room Collector clean = same_step Collector NoneHasRoom NewObject refl
  step_without_room (Thread t) clean = by (refusal program limits w (Thread t)) clean
    where
      by : (r : Option Turn) → (unless_refused program w (Thread t) NewObject r).fault ≡ None
          → unless_refused program w (Thread t) NoneHasRoom r
          ≡ unless_refused program w (Thread t) (choice_of program w t Fault) r
      by (Some refused) none = refl
      by None none = ap (λ b. counted (next program w t (faulting b)).after) (sym (ap is_some none))

  -- a turn with room that comes to a fault is that of a row at fault
  pub step_at_fault : (actor : Actor) (f : FaultKind × ℕ) → (ideal_step program limits w actor NewObject).fault ≡ Some f
      → ideal_step program limits w actor NewObject
      ≡ ideal_step program limits w actor (choice_by program w actor Fault)
  step_at_fault Collector f faults = refl
  step_at_fault (Thread t) f faults = by (refusal program limits w (Thread t)) faults
    where
      by : (r : Option Turn) → (unless_refused program w (Thread t) NewObject r).fault ≡ Some f
          → unless_refused program w (Thread t) NewObject r
          ≡ unless_refused program w (Thread t) (choice_of program w t Fault) r
      by (Some refused) some = refl
      by None some = ap (λ b. counted (next program w t (faulting b)).after) (sym (ap is_some some))

  -- a fault stays
  pub clean_before_step : (actor : Actor) (choice : Choice) → (ideal_step program limits w actor choice).fault ≡ None
      → w.fault ≡ None
  unfolding refusal
  clean_before_step actor choice clean = by w.fault clean refl
    where
      by : (f : Option (FaultKind × ℕ))
          → (unless_refused program w actor choice (refusal_after program limits w actor f)).fault ≡ None → w.fault ≡ f
          → w.fault ≡ None
      by None still is = is
      by (Some f) still is = still

-- ---- the rows of a run

module _ (program : List ClassListing) (shape : HeapShape) (limits : Limits) where
  clean_before_rows : (m : Machine) (rows : List Row) → (advance_all program shape limits m rows).world.fault ≡ None
      → m.world.fault ≡ None
  clean_before_rows m [] clean = clean
  clean_before_rows m (row ∷ rows) clean =
      clean_before_step program limits m.world row.actor (choice_by program m.world row.actor row.outcome)
      (clean_before_rows (advance program shape limits m row) rows clean)

  -- by what choice a turn came to a fault
  module _ (m : Machine) (t : ℕ) where
    abbrev faults : Choice → Bool
    faults c = is_fault (next program m.world t c).after

    by_outcome : (b : Bool) (o : Outcome) → o ≢ Fault → outcome_by b o ≡ Fault → b ≡ true
    by_outcome true o other is = refl
    by_outcome false o other is = absurd (other is)

    faults_asked : (b : Bool) → outcome_asked program m.world t b ≡ Fault → faults (faulting (faults NewObject)) ≡ true
    faults_asked true is = choice_faults faults NewObject
        (by_outcome (faults NewObject) Object (other_than_fault Object refl) is)
    faults_asked false is = choice_faults faults NoneHasRoom
        (by_outcome (faults NoneHasRoom) NoRoom (other_than_fault NoRoom refl) is)

    faults_if : (words : Option ℕ) → outcome_if program m t words ≡ Fault → faults (faulting (faults NewObject)) ≡ true
    faults_if None is = choice_faults faults NewObject (by_outcome (faults NewObject) Done (other_than_fault Done refl)
        is)
    faults_if (Some words) is = faults_asked (has_room m.account words) is

  module _ (m : Machine) (row : Row) where
    -- a row at fault leaves a fault
    leaves_fault : (actor : Actor) (r : Option Turn) → row_unless_refused program m actor row.worker r ≡ Some row
        → (unless_refused program m.world actor (choice_by program m.world actor Fault) r).fault ≡ None
        → row.outcome ≢ Fault
    leaves_fault actor (Some refused) made clean = absurd (true≢false (sym (ap is_some made)))
    leaves_fault Collector None made clean = λ e. other_than_fault Done refl (ap (outcome_or Done) made ∙ e)
    leaves_fault (Thread t) None made clean = λ e.
        some≢none _ (faults_if m t (asked program m.world t) (ap (outcome_or Done) made ∙ e)) clean

    fault_is_last : row_by program limits m row.actor row.worker ≡ Some row
        → (advance program shape limits m row).world.fault ≡ None → row.outcome ≢ Fault
    fault_is_last made clean e =
        leaves_fault row.actor (refusal program limits m.world row.actor) made
        (ap (λ (o : Outcome). (ideal_step program limits m.world row.actor
        (choice_by program m.world row.actor o)).fault) (sym e) ∙ clean) e

  clean_at : (m : Machine) (rows : List Row) → AreMade program shape limits m rows
      → (advance_all program shape limits m rows).world.fault ≡ None
      → (n : ℕ) (d : Row) → n < length rows → (get_or rows n d).outcome ≢ Fault
  clean_at m [] made clean n d lt = absurd (omega (arith, lt))
  clean_at m (row ∷ rows) made clean zero d lt = fault_is_last m row made.0
      (clean_before_rows (advance program shape limits m row) rows clean)
  clean_at m (row ∷ rows) made clean (suc n) d lt = clean_at (advance program shape limits m row) rows made.1 clean n d
      (omega (arith, lt))

-- where a run has come to no fault, none of its rows is at fault
pub made_clean : (v : Recorded) → IsMade v → (machine_of v).world.fault ≡ None → All IsNoFault v.journal.rows
unfolding machine_of
made_clean v is clean = λ k d lt.
    All-from_get_or IsNoFault v.journal.rows d
    (λ i inside. clean_at v.program v.journal.shape v.journal.limits (opening_machine v.program v.journal.shape)
    v.journal.rows is.rows clean i d inside) k d lt

-- ---- the reference

-- before any row
pub reference_opened : (v : Recorded) → reference_of (with_all v []) ≡ opening_run v.program v.journal.limits
unfolding machine_of
reference_opened v = refl

-- after a row more
pub reference_noted : (v : Recorded) (row : Row) → reference_of (noted v row)
    ≡ run_after (reference_of v) row.actor (choice_by v.program (machine_of v).world row.actor row.outcome)
reference_noted v row = ap (λ (m : Machine). run_of v m.world) (machine_of-noted v row)

-- by the choice that its outcome tells, if it isn't at fault
pub reference_reported : (v : Recorded) (row : Row) → row.outcome ≢ Fault
    → run_after (reference_of v) row.actor (reported_choice row.outcome) ≡ reference_of (noted v row)
reference_reported v row other = ap (run_of v) (step_reported v.program v.journal.limits (machine_of v).world row.actor
    row.outcome other) ∙ sym (reference_noted v row)

-- a turn with room that comes to a fault is that of a row at fault
pub reference_at_fault : (v : Recorded) (row : Row) (f : FaultKind × ℕ) → row.outcome ≡ Fault
    → (run_after (reference_of v) row.actor NewObject).world.fault ≡ Some f
    → run_after (reference_of v) row.actor NewObject ≡ reference_of (noted v row)
reference_at_fault v row f at some =
    ap (run_of v) (step_at_fault v.program v.journal.limits (machine_of v).world row.actor f some)
    ∙ ap (λ (o : Outcome). run_of v (ideal_step v.program v.journal.limits (machine_of v).world row.actor
    (choice_by v.program (machine_of v).world row.actor o))) (sym at)
    ∙ sym (reference_noted v row)

-- and one that comes to none: the row's had no room
pub reference_without_room : (v : Recorded) (row : Row) → row.outcome ≡ Fault
    → (run_after (reference_of v) row.actor NewObject).world.fault ≡ None
    → run_after (reference_of v) row.actor NoneHasRoom ≡ reference_of (noted v row)
reference_without_room v row at none =
    ap (run_of v) (step_without_room v.program v.journal.limits (machine_of v).world row.actor none)
    ∙ ap (λ (o : Outcome). run_of v (ideal_step v.program v.journal.limits (machine_of v).world row.actor
    (choice_by v.program (machine_of v).world row.actor o))) (sym at)
    ∙ sym (reference_noted v row)

-- then no row before it was at fault
pub clean_before_row : (v : Recorded) (actor : Actor) (choice : Choice) → IsMade v
    → (run_after (reference_of v) actor choice).world.fault ≡ None → All IsNoFault v.journal.rows
clean_before_row v actor choice is none = made_clean v is (clean_before_step v.program v.journal.limits
    (machine_of v).world actor choice none)

-- ---- from row to row

-- a row more, where none is at fault
pub follows_next : (v : Recorded) (done left : List Row) (row : Row) → v.journal.rows ≡ done ++ row ∷ left
    → All IsNoFault v.journal.rows
    → (run after : Run) (choice : Choice) → run ≡ reference_of (with_all v done) → choice ≡ reported_choice row.outcome
    → after ≡ run_after run row.actor choice → after ≡ reference_of (with_all v (done ++ row ∷ []))
follows_next v done left row all clean run after choice run_is choice_is after_is =
    after_is
    ∙ ap (λ (r : Run). run_after r row.actor choice) run_is
    ∙ ap (λ (c : Choice). run_after (reference_of (with_all v done)) row.actor c) choice_is
    ∙ reference_reported (with_all v done) row (of_next IsNoFault v.journal.rows done left row all clean)

-- ---- a row at fault

-- the fault that is seen after a turn with room
pub fault_seen : (v : Recorded) (run after : Run) (actor : Actor) (w : World) (f : Option (FaultKind × ℕ))
    → run ≡ reference_of v
    → after ≡ run_after run actor NewObject → w ≡ after.world → f ≡ w.fault
    → (run_after (reference_of v) actor NewObject).world.fault ≡ f
fault_seen v run after actor w f run_is after_is w_is f_is =
    sym (f_is ∙ ap (λ (x : World). x.fault) w_is ∙ ap (λ (r : Run). r.world.fault) (after_is
    ∙ ap (λ (r : Run). run_after r actor NewObject) run_is))

-- a world that has made no turn, with all rows of another
pub whole_again : (v u : Recorded) (rows : List Row) → u ≡ with_all v [] → rows ≡ v.journal.rows → with_all u rows ≡ v
whole_again v u rows u_is rows_are = ap (λ (x : Recorded). with_all x rows) u_is ∙ ap (with_all v) rows_are
