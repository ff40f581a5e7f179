use Rattle.collector.proofs.ListedLemmas.{word_at_cell, word_at_none}
use Rattle.collector.proofs.tests.real_heap.PlacesReferences.word.Goals as goal

pub returns-in-Some : goal.returns-in-Some
returns-in-Some c =
    rw (c.led_to.ensures, c.word.ensures)
    (word_at_cell _ _ _ _ _ _ c.in-Some.ensures.0 c.in-Some.ensures.1)

pub returns-in-None : goal.returns-in-None
returns-in-None c = word_at_none _ _ _ _ _ c.in-None.ensures
