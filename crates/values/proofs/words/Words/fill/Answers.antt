use Rattle.values.proofs.WordLemmas.{words-filled}
use Rattle.values.proofs.words.Words.fill.Goals as goal

pub returns : goal.returns
returns c = rw (← c.self.view_is, ← c.slot_of.ensures.value) (words-filled c.self.inside.slots.items _ c.args.base
    c.args.count c.slot_of.result c.fill.ensures)
