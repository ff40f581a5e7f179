use Rattle.std.proofs.Common.{refl}
use Rattle.cells.specs.Objects.{monitor_set}
use Rattle.instructions.proofs.ErrorLemmas.{changed_errors}
use Rattle.instructions.proofs.MonitoringLemmas.{monitored_agree}
use Rattle.instructions.proofs.heaps.Heap.set_monitor.Goals as goal

pub invariant_of-self : goal.invariant_of-self
invariant_of-self c = rw c.set_monitor.ensures (record {
  agree = monitored_agree _ _ _ c.in-Some.cell c.args.monitor c.self.invariant.agree;
  errors = changed_errors _ _ _ _ c.self.inside.births c.in-Some.cell (monitor_set c.args.monitor) (λ o. refl)
      c.self.invariant.errors;
  few = c.self.invariant.few;
})
