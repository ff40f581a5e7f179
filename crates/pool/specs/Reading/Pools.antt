-- Reading a pool.
use Rattle.std.specs.Prelude.{ℕ, zero, suc, ◌-◌, Bool, true, false, List, [], ◌∷◌, Option, Some, None, Result, Ok, Err}
use Rattle.std.specs.Prelude.{◌==◌, if◌then◌else◌}
use Rattle.std.specs.Int.{w16}
use Rattle.model.specs.declared.class_files.Entry.{Entry}
use Rattle.model.specs.declared.class_files.Entry.TheVariants.{Utf8, Integer, Long, Class, Fieldref, Methodref}
use Rattle.model.specs.declared.class_files.Entry.TheVariants.{InterfaceMethodref, NameAndType}
use Rattle.model.specs.declared.class_files.FormatFault.{FormatFault}
use Rattle.model.specs.declared.class_files.FormatFault.TheVariants.{Index}
use Rattle.model.specs.ClassFiles.References.{first_fault}
use Rattle.pool.specs.Slots.{entries_in}
use Rattle.pool.specs.Reading.Steps.{◌>>=◌, number_at}
use Rattle.pool.specs.Reading.Entries.{entry_from}

abbrev pub is_long : Entry → Bool
is_long (Utf8 text) = false
is_long (Integer z) = false
is_long (Long z) = true
is_long (Class name) = false
is_long (Fieldref class member) = false
is_long (Methodref class member) = false
is_long (InterfaceMethodref class member) = false
is_long (NameAndType name descriptor) = false

-- what stands under the next so many numbers, the first of which may be the second of a long
unfoldable pub slots_from : Bool → ℕ → List ℕ → Result (List (Option Entry) × List ℕ) FormatFault
slots_from second zero bytes = Ok ([], bytes)
slots_from true (suc n) bytes = do
  others ← slots_from false n bytes
  Ok (None ∷ others.0, others.1)
slots_from false (suc n) bytes = do
  first ← entry_from (suc n) bytes
  others ← slots_from (is_long first.0) n first.1
  Ok (Some first.0 ∷ others.0, others.1)

-- a slot before those that are read
abbrev pub slots_after : Option Entry → Result (List (Option Entry) × List ℕ) FormatFault
    → Result (List (Option Entry) × List ℕ) FormatFault
slots_after slot read = read >>= λ x. Ok (slot ∷ x.0, x.1)

-- the entries after their count
unfoldable pub entries_from : List ℕ → Result (List Entry × List ℕ) FormatFault
entries_from bytes = do
  count ← number_at w16 bytes
  slots ← if count.0 == 0 then Err Index else slots_from false (count.0 - 1) count.1
  Ok (entries_in slots.0, slots.1)

abbrev pub unless : {A : Type 0} → Option FormatFault → A → Result A FormatFault
unless None x = Ok x
unless (Some fault) x = Err fault

-- a pool whose entries name what they should
unfoldable pub pool_from : List ℕ → Result (List Entry × List ℕ) FormatFault
pool_from bytes = entries_from bytes >>= λ pool. unless (first_fault pool.0 pool.0) pool
