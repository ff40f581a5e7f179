use Rattle.std.proofs.Common.{subst}
use Rattle.model.specs.Machines.{Recorded}
use Rattle.scheduler.specs.Differing.{Excuses}
use Rattle.scheduler.proofs.Differing.{excuse_of_made}
use Rattle.scheduler.proofs.Making.{all_is}
use Rattle.scheduler.proofs.replaying.replay_watched.Goals as goal

pub returns-in-Err-clause-refused : goal.returns-in-Err-clause-refused
returns-in-Err-clause-refused g c =
    subst (λ (v : Recorded). Excuses v c.in-Err.error)
    (all_is c.args.program (g.J.JournalParts.journal_of c.args.journal.now) c.in-Ok.world c.set_workers.new.self
    c.shape.result c.limits.result c.workers.result
    c.rows.result c.in-Ok.ensures.opened c.set_workers.ensures c.shape.ensures c.limits.ensures c.workers.ensures
    c.rows.ensures)
    c.in-Err.ensures

pub returns-in-Err-clause-again : goal.returns-in-Err-clause-again
returns-in-Err-clause-again g c = λ made. excuse_of_made _ c.in-Err.error made (returns-in-Err-clause-refused g c)
