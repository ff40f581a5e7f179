use Rattle.instructions.proofs.OwnWords.{own-stored}
use Rattle.instructions.proofs.heaps.own_class.Goals as goal

pub returns-clause-stored : goal.returns-clause-stored
returns-clause-stored c =
    rw c.listings.ensures.listings (own-stored c.args.program.now c.listings.ensures.can_run c.args.place)
