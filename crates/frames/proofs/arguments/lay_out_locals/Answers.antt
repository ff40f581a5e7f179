use Rattle.std.proofs.Common.{arith}
use Rattle.frames.proofs.ArgumentLemmas.{laid_out_items}
use Rattle.frames.proofs.arguments.lay_out_locals.Goals as goal

pub returns-clause-items : goal.returns-clause-items
returns-clause-items c = laid_out_items _ _ _ _ _ _ _ _ (omega arith) c.requires.enough c.copy_arguments-end.ensures.end
    c.copy_arguments-end.ensures.items c.unset.ensures
