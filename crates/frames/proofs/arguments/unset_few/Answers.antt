use Rattle.std.proofs.Common.{◌∙◌, ap, arith, length, length-set}
use Rattle.frames.proofs.ArgumentLemmas.{unset_next}
use Rattle.frames.proofs.arguments.unset_few.Goals as goal

pub loop-made-preserved : goal.loop-made-preserved
loop-made-preserved c = record {
  items = c.put.ensures
      ∙ unset_next _ _ _ _ c.loop-made.invariant.items c.loop-made.invariant.len (omega arith);
  len = ap length c.put.ensures ∙ length-set _ _ _ ∙ c.loop-made.invariant.len;
}
