use Rattle.hall.proofs.Rows.{still_known}
use Rattle.hall.proofs.shares.Shared.carry_and_sweep.Goals as goal

pub sweep-requires : goal.sweep-requires
sweep-requires g c = still_known _ _ _ _ c.carry-answer.ensures.share c.requires
