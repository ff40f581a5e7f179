use Rattle.std.proofs.Common.{◌∙◌, sym}
use Rattle.collector.proofs.ListsNoted.{spread_step}
use Rattle.exploring.proofs.walk.spread.Goals as goal

pub loop-n-preserved : goal.loop-n-preserved
loop-n-preserved c =
    spread_step c.args.world.now c.args.count c.loop-n.n c.loop-n.reaching c.note_words.new.reaching c.in-Some.birth
    c.in_ok-note_words.ensures c.loop-n-test.true (sym c.in-Some.is ∙ c.listed.ensures)
    ∙ c.loop-n.invariant
