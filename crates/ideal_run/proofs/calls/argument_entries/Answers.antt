use Rattle.ideal_run.proofs.ArgumentLemmas.{arguments-next}
use Rattle.ideal_run.proofs.calls.argument_entries.Goals as goal

pub loop-value-preserved : goal.loop-value-preserved
loop-value-preserved c = arguments-next _ _ _ _ _ c.loop-value-test.true c.loop-value.invariant
    c.in_ok-add_argument.ensures
