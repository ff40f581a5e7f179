-- A constant pool is the list of its entries (JVMS 4.1, 4.4).
use Rattle.std.specs.Prelude.{ℕ, ◌+◌, ◌^◌, ◌<◌, List, [], ◌∷◌, ◌++◌, slice_get, sum_by, Option, Some, None}
use Rattle.std.specs.List.{flat_map, AllByRecursion}
use Rattle.model.specs.ClassFiles.Numbers.{u2}
use Rattle.model.specs.ClassFiles.Entries.{entry_bytes, numbers_of, EntryFits}
use Rattle.model.specs.declared.class_files.Entry.{Entry}
use Rattle.model.specs.declared.class_files.Entry.TheVariants.{Utf8, Integer, Long, Class, Fieldref, Methodref}
use Rattle.model.specs.declared.class_files.Entry.TheVariants.{InterfaceMethodref, NameAndType}

-- what stands under the numbers that an entry takes: of a Long the first has the entry
abbrev pub under : Entry → List (Option Entry) → List (Option Entry)
under (Utf8 text) others = Some (Utf8 text) ∷ others
under (Integer z) others = Some (Integer z) ∷ others
under (Long z) others = Some (Long z) ∷ None ∷ others
under (Class name) others = Some (Class name) ∷ others
under (Fieldref class member) others = Some (Fieldref class member) ∷ others
under (Methodref class member) others = Some (Methodref class member) ∷ others
under (InterfaceMethodref class member) others = Some (InterfaceMethodref class member) ∷ others
under (NameAndType name descriptor) others = Some (NameAndType name descriptor) ∷ others

-- what stands under the numbers from 1 on
abbrev pub slots_of : List Entry → List (Option Entry)
slots_of [] = []
slots_of (e ∷ es) = under e (slots_of es)

abbrev pub held : Option (Option Entry) → Option Entry
held None = None
held (Some slot) = slot

-- the entry under a number; 0 is none's
abbrev pub entry_at : List Entry → ℕ → Option Entry
entry_at pool n = held (slice_get (None ∷ slots_of pool) n)

-- the count that a file gives: one more than the numbers taken
abbrev pub pool_count : List Entry → ℕ
pool_count pool = 1 + sum_by numbers_of pool

abbrev pub pool_bytes : List Entry → List ℕ
pool_bytes pool = u2 (pool_count pool) ++ flat_map entry_bytes pool

-- what has bytes
abbrev pub PoolFits : List Entry → Type 0
PoolFits pool = (pool_count pool < 2 ^ 16) × AllByRecursion EntryFits pool
