-- Threads that are known not to be ready on cells aren't ready in the ideal run, and the other way round; nor are they
-- after turns of the collector.
use Rattle.std.proofs.Common.{◌≡◌, ◌∙◌, ◌+◌, ℕ, zero, suc, List, Option, Some, None, ap, refl, sym}
use Rattle.exploration.proofs.RowCounts.{ready_at}
use Rattle.model.specs.declared.journals.Row.{Row}
use Rattle.model.specs.declared.turns.Actor.TheVariants.{Collector}
use Rattle.model.specs.declared.turns.Turn.{Turn}
use Rattle.model.specs.ClassListings.{ClassListing}
use Rattle.model.specs.Collector.Runs.{advance_if, moved_by}
use Rattle.model.specs.Effects.Choice.{NewObject}
use Rattle.model.specs.Journals.{JournalValue}
use Rattle.model.specs.Machines.{Machine, Recorded, after_turn_by, machine_of, row_for, row_unless_refused, with_row}
use Rattle.model.specs.Observers.{ideal}
use Rattle.model.specs.Ready.{is_ready}
use Rattle.model.specs.Turns.{refusal, unless_refused}
use Rattle.model.specs.Worlds.{World}
use Rattle.model.proofs.CollectorLemmas.Running.{machine_of-turn}
use Rattle.join.proofs.ReadingBack.{reads_back}
use Rattle.instructions.specs.declared.idle.Idle.{Idle}
use Rattle.instructions.specs.Idle.{AreIdle, LeavesOthers}
use Rattle.instructions.specs.Loaded.{Loaded}
use Rattle.scheduler.specs.Rounds.{LeavesOthersReady, collections}
use Rattle.scheduler.specs.Worlds.{IsOf, recorded}
use Rattle.scheduler.proofs.Picking.{refused-world}

module _ (s : Loaded) (j : JournalValue) (k : ℕ) (is : IsOf s j k) where
  abbrev v : Recorded
  v = recorded s j

  pub ready_is : (t : ℕ) → is_ready s.program s.machine.world t ≡ is_ready s.program (ideal v) t
  ready_is = (reads_back s.program j.shape j.limits s.machine (machine_of v) is.holds is.bounded is.joint).ready

  pub idle-on-cells : (idle : Idle) → AreIdle s.program (ideal v) idle → AreIdle s.program s.machine.world idle
  idle-on-cells idle known t e = ready_is t ∙ known t e

  pub idle-recorded : (idle : Idle) → AreIdle s.program s.machine.world idle → AreIdle s.program (ideal v) idle
  idle-recorded idle known t e = sym (ready_is t) ∙ known t e

-- a turn on cells leaves others as they were
pub others-recorded : (s : Loaded) (j : JournalValue) (k : ℕ) → IsOf s j k → (after : Loaded) (noted : JournalValue)
    (next : ℕ) → IsOf after noted next → (t : ℕ) → LeavesOthers s t after
    → LeavesOthersReady (recorded s j) t (recorded after noted)
others-recorded s j k is after noted next still t others u other =
    sym (ready_is after noted next still u) ∙ others u other ∙ ready_is s j k is u

-- ---- turns of the collector

-- but for the count of rows a world is as it was
counted_ready : (program : List ClassListing) (w : World) (n t : ℕ) →
    is_ready program (let counted : World = record w { rows = n } in counted) t ≡ is_ready program w t
counted_ready program w n t =
    let counted : World = record w { rows = n } in
    sym (ready_at program counted t) ∙ ready_at program w t

module _ (v : Recorded) (worker : ℕ) where
  collected_ready : (t : ℕ) → is_ready v.program (ideal (after_turn_by v Collector worker)) t
      ≡ is_ready v.program (ideal v) t
  unfolding moved_by
  collected_ready t = by (refusal v.program v.journal.limits (ideal v) Collector) refl
    where
      by : (o : Option Turn) → refusal v.program v.journal.limits (ideal v) Collector ≡ o
          → is_ready v.program (ideal (after_turn_by v Collector worker)) t ≡ is_ready v.program (ideal v) t
      by (Some r) e = ap (λ (x : Recorded). is_ready v.program (ideal x) t) (refused-world v Collector worker r e)
      by None e =
          let m = machine_of v in
          ap (λ (x : Machine). is_ready v.program x.world t) (machine_of-turn v Collector worker)
          ∙ ap (λ (o : Option Turn). is_ready v.program (advance_if v.program v.journal.shape v.journal.limits m
          (row_unless_refused v.program m Collector 0 o)).world t) e
          ∙ ap (λ (o : Option Turn). is_ready v.program (unless_refused v.program m.world Collector NewObject o) t) e
          ∙ counted_ready v.program m.world (m.world.rows + 1) t

  program_added : (o : Option Row) → (with_row v o).program ≡ v.program
  program_added None = refl
  program_added (Some row) = refl

  program_after : (after_turn_by v Collector worker).program ≡ v.program
  unfolding after_turn_by
  program_after = program_added (row_for v Collector worker)

-- they leave each thread as ready as it was
pub ready-collected : (v : Recorded) (worker n t : ℕ) →
    let w = collections v worker n in is_ready w.program (ideal w) t ≡ is_ready v.program (ideal v) t
ready-collected v worker zero t = refl
ready-collected v worker (suc n) t =
    let after = after_turn_by v Collector worker in
    ready-collected after worker n t ∙ ap (λ program. is_ready program (ideal after) t) (program_after v worker)
    ∙ collected_ready v worker t

pub idle-collected : (v : Recorded) (worker n : ℕ) (idle : Idle) → AreIdle v.program (ideal v) idle →
    let w = collections v worker n in AreIdle w.program (ideal w) idle
idle-collected v worker n idle known t e = ready-collected v worker n t ∙ known t e
