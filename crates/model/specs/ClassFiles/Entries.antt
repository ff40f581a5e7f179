-- Entries of a constant pool as bytes (JVMS 4.4).
use Rattle.std.specs.Prelude.{ℕ, ◌^◌, ◌<◌, Bool, ◌&&◌, nat_le, List, ◌∷◌, ◌++◌, length, IsTrue}
use Rattle.std.specs.List.{list_all}
use Rattle.std.specs.Int.{w32, w64}
use Rattle.std.specs.Prelude.{FitsSigned}
use Rattle.model.specs.ClassFiles.Numbers.{u2, s4, s8}
use Rattle.model.specs.declared.class_files.Entry.{Entry}
use Rattle.model.specs.declared.class_files.Entry.TheVariants.{Utf8, Integer, Long, Class, Fieldref, Methodref}
use Rattle.model.specs.declared.class_files.Entry.TheVariants.{InterfaceMethodref, NameAndType}

-- an entry begins with its tag
abbrev pub entry_bytes : Entry → List ℕ
entry_bytes (Utf8 text) = 1 ∷ (u2 (length text) ++ text)
entry_bytes (Integer z) = 3 ∷ s4 z
entry_bytes (Long z) = 5 ∷ s8 z
entry_bytes (Class name) = 7 ∷ u2 name
entry_bytes (Fieldref class member) = 9 ∷ (u2 class ++ u2 member)
entry_bytes (Methodref class member) = 10 ∷ (u2 class ++ u2 member)
entry_bytes (InterfaceMethodref class member) = 11 ∷ (u2 class ++ u2 member)
entry_bytes (NameAndType name descriptor) = 12 ∷ (u2 name ++ u2 descriptor)

-- a Long takes two numbers of the pool (JVMS 4.4.5)
abbrev pub numbers_of : Entry → ℕ
numbers_of (Utf8 text) = 1
numbers_of (Integer z) = 1
numbers_of (Long z) = 2
numbers_of (Class name) = 1
numbers_of (Fieldref class member) = 1
numbers_of (Methodref class member) = 1
numbers_of (InterfaceMethodref class member) = 1
numbers_of (NameAndType name descriptor) = 1

-- texts are of the ASCII characters but NUL
abbrev pub is_text_byte : ℕ → Bool
is_text_byte b = nat_le 1 b && nat_le b 127

-- what has bytes: the numbers have their range, and the text has a length
abbrev pub EntryFits : Entry → Type 0
EntryFits (Utf8 text) = (length text < 2 ^ 16) × IsTrue (list_all is_text_byte text)
EntryFits (Integer z) = FitsSigned w32 z
EntryFits (Long z) = FitsSigned w64 z
EntryFits (Class name) = name < 2 ^ 16
EntryFits (Fieldref class member) = (class < 2 ^ 16) × (member < 2 ^ 16)
EntryFits (Methodref class member) = (class < 2 ^ 16) × (member < 2 ^ 16)
EntryFits (InterfaceMethodref class member) = (class < 2 ^ 16) × (member < 2 ^ 16)
EntryFits (NameAndType name descriptor) = (name < 2 ^ 16) × (descriptor < 2 ^ 16)
