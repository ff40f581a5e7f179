-- The turn of the thread that is picked, where one look at its step showed that it may be made.
use Rattle.std.proofs.Common.{◌≡◌, ◌<◌, ◌+◌, ℕ, length, Option, Some, None, false, ap, sym, subst, ◌∙◌}
use Rattle.std.specs.Prelude.{IfSome}
use Rattle.model.specs.declared.journals.Outcome.{Outcome}
use Rattle.model.specs.declared.journals.Row.{Row}
use Rattle.model.specs.declared.places.CodePlace.{CodePlace}
use Rattle.model.specs.declared.turns.Actor.TheVariants.{Thread}
use Rattle.model.specs.declared.turns.Turn.TheVariants.{Done}
use Rattle.model.specs.Journals.{JournalValue, with_row}
use Rattle.model.specs.Machines.{Recorded, after_turn_by, answer_to, answer_unless_refused, noted, reported_of}
use Rattle.model.specs.Observers.{ideal, pick_of}
use Rattle.model.specs.Turns.{refusal}
use Rattle.join.specs.TurnsOnCells.{outcome_on}
use Rattle.instructions.specs.FirstTurns.{IsFirstTurn}
use Rattle.instructions.specs.Loaded.{Loaded}
use Rattle.instructions.specs.LoneRounds.{StandsAtNone}
use Rattle.instructions.specs.Stops.{is_stop}
use Rattle.instructions.specs.declared.stops.Stops.{Stops}
use Rattle.scheduler.specs.Rounds.{PicksPast, answered_by, picked, picked_answer, turned_by}
use Rattle.scheduler.specs.Worlds.{IsOf, recorded}
use Rattle.scheduler.proofs.Noting.{after_is, answer_is, noted_is, pick_is, refusal_is, row_fits}
use Rattle.scheduler.proofs.Observing.{place_is}

module _ (s : Loaded) (j : JournalValue) (k : ℕ) (is : IsOf s j k) (worker t : ℕ) (outcome : Outcome) (after : Loaded)
    (made : IsFirstTurn s k after (t, outcome)) where
  abbrev v : Recorded
  v = recorded s j

  allowed : refusal s.program j.limits (ideal v) (Thread t) ≡ None
  allowed = sym (refusal_is s j k is (Thread t)) ∙ made.allowed

  pick : pick_of v ≡ Some t
  pick = sym (pick_is s j k is) ∙ made.picked

  abbrev row : Outcome → Row
  row o = record { actor = Thread t; outcome = o; worker = worker }

  pub first_fits : length j.rows < j.limits.steps
  first_fits = row_fits s j k is (Thread t) worker allowed

  pub first_noted : IsOf after (with_row j (row outcome)) (t + 1)
  first_noted =
      subst (λ (o : Outcome). IsOf after (with_row j (row o)) (t + 1)) (sym made.outcome)
      (subst (λ (x : Loaded). IsOf x (with_row j (row (outcome_on s.program s.machine (Thread t)))) (t + 1))
      (sym made.turn)
      (noted_is s j k is (Thread t) worker allowed))

  turned : recorded after (with_row j (row outcome)) ≡ after_turn_by v (Thread t) worker
  turned =
      ap (λ (x : Loaded). recorded x (with_row j (row outcome))) made.turn
      ∙ ap (λ (o : Outcome). noted v (row o)) made.outcome
      ∙ sym (after_is s j k is (Thread t) worker allowed)

  pub first_picked : recorded after (with_row j (row outcome)) ≡ picked v worker
  first_picked = turned ∙ sym (ap (turned_by v worker) pick)

  answered : answer_to v (Thread t) worker ≡ reported_of (ideal (after_turn_by v (Thread t) worker)).fault
  unfolding answer_to
  answered = ap (answer_unless_refused (after_turn_by v (Thread t) worker)) allowed

  pub first_answer : reported_of (ideal (recorded after (with_row j (row outcome)))).fault ≡ picked_answer v worker
  first_answer = ap (λ (u : Recorded). reported_of (ideal u).fault) turned ∙ sym answered
      ∙ sym (ap (answered_by v worker) pick)

  -- it is done where there is no fault after it
  pub first_done : after.machine.world.fault ≡ None → picked_answer v worker ≡ Done
  first_done faultless =
      sym first_answer ∙ sym (answer_is after (with_row j (row outcome)) (t + 1) first_noted) ∙ ap reported_of faultless

  -- a thread that stands at no stop is picked there
  pub first_past : (stops : Stops) → StandsAtNone stops s t → PicksPast stops v
  first_past stops past = (
    t,
    pick,
    subst (λ (o : Option CodePlace). IfSome o (λ place. is_stop stops place ≡ false)) (place_is s j k is t) past,
  )
