use Rattle.std.proofs.Common.{◌∙◌, sym}
use Rattle.collector.proofs.ListsNoted.{spread_step}
use Rattle.collector.proofs.reaching.Reaching.spread.Goals as goal

pub loop-n-preserved : goal.loop-n-preserved
loop-n-preserved g c =
    spread_step (g.R.References.world c.args.references.now) c.args.count c.loop-n.n c.loop-n.self c.note_words.new.self
    c.in-Some.reference
    c.in_ok-note_words.ensures c.loop-n-test.true (sym c.in-Some.is ∙ c.listed.ensures)
    ∙ c.loop-n.invariant
