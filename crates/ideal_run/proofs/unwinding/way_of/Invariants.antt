use Rattle.std.proofs.Common.{◌≡◌, reverse}
use Rattle.model.specs.Unwinding.{way_of}
use Rattle.ideal_run.proofs.WayLemmas.{passed}
use Rattle.ideal_run.proofs.unwinding.way_of.Given as goal

-- the frames so far are left
abbrev pub invariant-loop-below : goal.invariant-loop-below
invariant-loop-below l = way_of l.program l.class (reverse l.frames) ≡ passed l.program l.class l.frames l.below
