-- What stands under the numbers of a pool, from 0 on.
use Rattle.std.specs.Prelude.{◌≡◌, List, [], ◌∷◌, Option, Some, None}
use Rattle.model.specs.ClassFiles.Pools.{slots_of}
use Rattle.model.specs.declared.class_files.Entry.{Entry}

-- the entries among what stands under numbers
abbrev pub entries_in : List (Option Entry) → List Entry
entries_in [] = []
entries_in (None ∷ slots) = entries_in slots
entries_in (Some e ∷ slots) = e ∷ entries_in slots

-- the slots are those of their entries; 0 is no entry's number
abbrev pub AreSlots : List (Option Entry) → Type 0
AreSlots slots = slots ≡ None ∷ slots_of (entries_in slots)
