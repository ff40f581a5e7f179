use Rattle.std.proofs.Common.{ℕ, refl}
use Rattle.model.specs.declared.colours.Phase.{Phase}
use Rattle.model.specs.declared.colours.Phase.TheVariants.{Idle, Statics, Frames, Mark, Append}
use Rattle.model.specs.declared.journals.HeapShape.{HeapShape}
use Rattle.model.specs.Accounts.{Account}
use Rattle.model.specs.Worlds.{World}
use Rattle.model.specs.Collector.Table.{at_phase, step_in, collected}
use Rattle.model.specs.Collector.Invariant.{Invariant}
use Rattle.model.proofs.CollectorLemmas.Looking.{idle_keeps, statics_keeps}
use Rattle.model.proofs.CollectorLemmas.Scanning.{frames_keeps}
use Rattle.model.proofs.CollectorLemmas.Marking.{mark_keeps}
use Rattle.model.proofs.CollectorLemmas.Sweeping.{append_keeps}

-- each of the collector's steps keeps the invariant

step_keeps : (shape : HeapShape) (w : World) (n : ℕ) (a : Account) (phase : Phase)
    → Invariant shape w n (at_phase a phase) → Invariant shape w n (step_in shape w (at_phase a phase) phase)
step_keeps shape w n a Idle i = idle_keeps shape w n (at_phase a Idle) refl i
step_keeps shape w n a (Statics s) i = statics_keeps shape w n (at_phase a (Statics s)) s refl i
step_keeps shape w n a (Frames t d j) i = frames_keeps shape w n (at_phase a (Frames t d j)) t d j refl i
step_keeps shape w n a (Mark q) i = mark_keeps shape w n a a.grey q i
step_keeps shape w n a (Append p) i = append_keeps shape w n a p i

pub collected_keeps : (shape : HeapShape) (w : World) (n : ℕ) (a : Account) → Invariant shape w n a
    → Invariant shape w n (collected shape w a)
unfolding collected
collected_keeps shape w n a i = step_keeps shape w n a a.phase i
