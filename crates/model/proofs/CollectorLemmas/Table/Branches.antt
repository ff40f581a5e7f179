use Rattle.std.proofs.Common.{ℕ, [], Bool, Result, Ok, Err}
use Rattle.model.specs.declared.turns.Fault.{Fault}
use Rattle.model.specs.declared.instructions.Test.{Test}
use Rattle.model.specs.declared.instructions.Test.TheVariants.{Always, Zero, Ints, Refs, Null}
use Rattle.model.specs.Frames.{Frame, int_on, ref_on, two_ints_on, two_refs_on}
use Rattle.model.specs.Worlds.{World}
use Rattle.model.specs.Table.Branches.{zero_test, ints_test, refs_test, null_test, branch_pc, branched_on, branched}
use Rattle.model.specs.Collector.Moves.{ResultMoves}
use Rattle.model.proofs.CollectorLemmas.Stepping.{replaced_lawful}

-- operands go, and nothing is pushed
branched_on_lawful : (w : World) (next target : ℕ) (f : Frame) (n : ℕ) (r : Result Bool Fault)
    → ResultMoves w f (branched_on next target f n r)
branched_on_lawful w next target f n (Err e) = tt
branched_on_lawful w next target f n (Ok taken) = replaced_lawful w (branch_pc next target taken) f n [] tt

pub branched_lawful : (w : World) (next : ℕ) (test : Test) (target : ℕ) (f : Frame)
    → ResultMoves w f (branched next test target f)
branched_lawful w next (Always width) target f = replaced_lawful w target f 0 [] tt
branched_lawful w next (Zero comparison) target f = branched_on_lawful w next target f 1
    (zero_test comparison (int_on f.stack))
branched_lawful w next (Ints comparison) target f = branched_on_lawful w next target f 2
    (ints_test comparison (two_ints_on f.stack))
branched_lawful w next (Refs identity) target f = branched_on_lawful w next target f 2
    (refs_test identity (two_refs_on f.stack))
branched_lawful w next (Null identity) target f = branched_on_lawful w next target f 1
    (null_test identity (ref_on f.stack))
