use Rattle.std.proofs.lemmas.List.{map-set}
use Rattle.values.specs.Slots.{value_of}
use Rattle.values.proofs.words.Words.put.Goals as goal

pub returns : goal.returns
returns c = rw (← c.self.view_is, ← c.slot_of.ensures.value) (map-set value_of c.self.inside.slots.items c.args.place
    c.slot_of.result)
