use Rattle.std.proofs.Common.{◌≡◌, List, ◌++◌, map, drop}
use Rattle.model.specs.ClassFiles.Items.{Item, with_items}
use Rattle.model.specs.ClassFiles.Items.Item.{int_item}
use Rattle.assembler.proofs.pool_numbers.Numbers.ints.Given as goal

-- the ints so far were added
abbrev pub invariant-loop-value : goal.invariant-loop-value
invariant-loop-value l = (later : List Item) → with_items l.initial.self (map int_item l.values ++ later)
    ≡ with_items l.self (map int_item (drop l.value-index l.values) ++ later)
