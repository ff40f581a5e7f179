-- Turns of the collector that nothing refuses, one after another: there was no fault, and the journal has room for them.
use Rattle.std.proofs.Common.{◌≡◌, ◌∙◌, ◌<◌, ◌≤◌, ◌+◌, arith, ℕ, Bool, true, false, Option, Some, None, ap, refl, sym}
use Rattle.std.specs.Prelude.{if◌then◌else◌, nat_le}
use Rattle.std.proofs.lemmas.Bool.{leb-true}
use Rattle.model.specs.declared.journals.Limits.{Limits}
use Rattle.model.specs.declared.journals.Row.{Row}
use Rattle.model.specs.declared.turns.Actor.TheVariants.{Collector}
use Rattle.model.specs.declared.turns.Turn.{Turn}
use Rattle.model.specs.declared.turns.Turn.TheVariants.{StepLimit}
use Rattle.model.specs.Collector.Runs.{advance_if, moved_by}
use Rattle.model.specs.Effects.Choice.{NewObject}
use Rattle.model.specs.Machines.{Machine, Recorded, after_turn_by, machine_of, noted, outcome_of, row_for}
use Rattle.model.specs.Machines.{row_unless_refused, with_row}
use Rattle.model.specs.Observers.{ideal}
use Rattle.model.specs.Turns.{refusal, refusal_after, unless_refused}
use Rattle.model.specs.Worlds.{World}
use Rattle.model.proofs.CollectorLemmas.Running.{machine_of-turn}

module _ (v : Recorded) (worker : ℕ) (faultless : (ideal v).fault ≡ None)
    (less : (ideal v).rows < v.journal.limits.steps) where
  abbrev row : Row
  row = record { actor = Collector; outcome = outcome_of v.program (machine_of v) Collector; worker = worker }

  pub allowed : refusal v.program v.journal.limits (ideal v) Collector ≡ None
  unfolding refusal
  allowed =
      ap (refusal_after v.program v.journal.limits (ideal v) Collector) faultless
      ∙ ap (λ b. if b then Some StepLimit else None) (counted (nat_le v.journal.limits.steps (ideal v).rows) refl)
    where
      counted : (b : Bool) → nat_le v.journal.limits.steps (ideal v).rows ≡ b
          → nat_le v.journal.limits.steps (ideal v).rows ≡ false
      counted true e = absurd (omega (arith, leb-true v.journal.limits.steps (ideal v).rows e, less))
      counted false e = e

  pub collector_noted : noted v row ≡ after_turn_by v Collector worker
  unfolding after_turn_by
  collector_noted = sym (ap (λ o. with_row v (row_unless_refused v.program (machine_of v) Collector worker o)) allowed)

  then_is : ideal (after_turn_by v Collector worker)
      ≡ (let counted : World = record (ideal v) { rows = (ideal v).rows + 1 } in counted)
  unfolding moved_by
  then_is =
      let m = machine_of v in
      ap (λ (x : Machine). x.world) (machine_of-turn v Collector worker)
      ∙ ap (λ (o : Option Turn). (advance_if v.program v.journal.shape v.journal.limits m
      (row_unless_refused v.program m Collector 0 o)).world) allowed
      ∙ ap (λ (o : Option Turn). unless_refused v.program m.world Collector NewObject o) allowed

  pub fault_then : (ideal (after_turn_by v Collector worker)).fault ≡ None
  fault_then = ap (λ (w : World). w.fault) then_is ∙ faultless

  pub rows_then : (ideal (after_turn_by v Collector worker)).rows ≡ (ideal v).rows + 1
  rows_then = ap (λ (w : World). w.rows) then_is

  limits_added : (o : Option Row) → (with_row v o).journal.limits ≡ v.journal.limits
  limits_added None = refl
  limits_added (Some r) = refl

  pub limits_then : (after_turn_by v Collector worker).journal.limits ≡ v.journal.limits
  unfolding after_turn_by
  limits_then = limits_added (row_for v Collector worker)
