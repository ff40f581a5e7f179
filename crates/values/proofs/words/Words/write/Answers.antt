use Rattle.std.proofs.Common.{arith, refl}
use Rattle.values.proofs.WordLemmas.{none_written, next_written, all_written}
use Rattle.values.proofs.words.Words.write.Goals as goal

pub loop-n-init : goal.loop-n-init
loop-n-init c = none_written _ _ _

pub put-requires : goal.put-requires
put-requires c =
    let long = c.loop-n.invariant.long in
    omega (arith, long)

pub loop-n-preserved : goal.loop-n-preserved
loop-n-preserved c = rw c.put.ensures (next_written _ _ _ _ _ _ _ c.loop-n.invariant c.requires (omega arith) refl)

pub returns : goal.returns
returns c = all_written _ _ _ _ _ c.loop-n.invariant (omega arith)
