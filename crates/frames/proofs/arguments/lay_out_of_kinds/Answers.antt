use Rattle.std.proofs.Common.{arith}
use Rattle.frames.proofs.ArgumentLemmas.{laid_out_items}
use Rattle.frames.proofs.arguments.lay_out_of_kinds.Goals as goal

pub returns-in-Some-clause-items : goal.returns-in-Some-clause-items
returns-in-Some-clause-items c =
    let enough = c.requires.enough c.in-Some.ensures.kinds in
    laid_out_items _ _ _ _ _ _ _ _ (omega arith) enough c.in-Some.ensures.end c.in-Some.ensures.items
    c.unset_few.ensures
