use Rattle.std.specs.Prelude.{vec_len}
use Rattle.hall.proofs.driving.+work_all.Given as goal

abbrev pub decreases-work_all : goal.decreases-work_all
decreases-work_all g l = vec_len l.shares
