use Rattle.std.proofs.Common.{rules}
use Rattle.values.proofs.WordLemmas.{same-words}
use Rattle.values.proofs.words.Words.new.Goals as goal

pub returns : goal.returns
returns c = rw (c.in_ok-vec.ensures.items_if_clones_equal (search rules), ← c.slot_of.ensures.value)
    (same-words c.args.count c.slot_of.result)
