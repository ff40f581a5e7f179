-- A class file up to its methods (JVMS 4.1).
use Rattle.std.specs.Prelude.{◌≡◌, ℕ, ◌^◌, ◌<◌, Bool, true, not, ◌&&◌, ◌||◌, ◌==◌, bit_and, List, [], ◌∷◌, ◌++◌, length}
use Rattle.std.specs.List.{flat_map}
use Rattle.std.specs.Option.{option_and_then}
use Rattle.model.specs.Texts.Names.{is_class_name}
use Rattle.model.specs.Texts.Flags.{has, class_flags_agree}
use Rattle.model.specs.ClassFiles.Numbers.{u2}
use Rattle.model.specs.ClassFiles.Pools.{entry_at, pool_bytes, PoolFits}
use Rattle.model.specs.ClassFiles.References.{text_at, class_of, AreSound}
use Rattle.model.specs.ClassFiles.Attributes.{passes}
use Rattle.model.specs.ClassFiles.Fields.{SpellsField, field_bytes}
use Rattle.model.specs.ClassFiles.Lists.{SpellsAll}
use Rattle.model.specs.declared.class_files.Entry.{Entry}
use Rattle.model.specs.declared.class_files.FieldEntry.{FieldEntry}
use Rattle.model.specs.declared.flags.ClassFlags.{ClassFlags}

-- a class file up to its methods; classes go by the numbers of their entries
pub record HeadPart : Type 0 where
  pub pool : List Entry
  pub flags : ClassFlags
  pub class : ℕ
  pub superclass : ℕ
  pub interfaces : List ℕ
  pub fields : List FieldEntry

-- cafebabe, and version 49.0
abbrev pub opening : List ℕ
opening = 0xca ∷ 0xfe ∷ 0xba ∷ 0xbe ∷ 0 ∷ 0 ∷ 0 ∷ 49 ∷ []

-- no other bit than those of class flags; an interface is abstract (JVMS 4.1)
abbrev pub are_class_flags : ℕ → Bool
are_class_flags flags = bit_and flags 0xf9ce == 0 && (not (has flags 0x0200) || has flags 0x0400)
    && class_flags_agree flags

-- a number is of a class that is no array
abbrev pub is_class : List Entry → ℕ → Bool
is_class pool n = passes is_class_name (option_and_then (text_at pool) (class_of (entry_at pool n)))

-- the number of a class that is no array
abbrev pub SpellsClass : List Entry → List ℕ → ℕ → Type 0
SpellsClass pool bytes n = (bytes ≡ u2 n) × (n < 2 ^ 16) × (is_class pool n ≡ true)

-- a list after its count
pub record SpellsList {A : Type 0} (Spells : List ℕ → A → Type 0) (bytes : List ℕ) (xs : List A) : Type 0 where
  pub few : length xs < 2 ^ 16
  pub body : List ℕ
  pub bytes_are : bytes ≡ u2 (length xs) ++ body
  pub all : SpellsAll Spells body xs

-- what stands after the pool
pub record SpellsAfterPool (bytes : List ℕ) (h : HeadPart) : Type 0 where
  pub flags_fit : h.flags.0 < 2 ^ 16
  pub flags_agree : are_class_flags h.flags.0 ≡ true
  pub class_bytes : List ℕ
  pub class_spells : SpellsClass h.pool class_bytes h.class
  pub super_bytes : List ℕ
  pub super_spells : SpellsClass h.pool super_bytes h.superclass
  pub interface_bytes : List ℕ
  pub interfaces_spell : SpellsList (SpellsClass h.pool) interface_bytes h.interfaces
  pub field_bytes : List ℕ
  pub fields_spell : SpellsList (SpellsField h.pool h.flags.0) field_bytes h.fields
  pub bytes_are : bytes ≡ u2 h.flags.0 ++ (class_bytes ++ (super_bytes ++ (interface_bytes ++ field_bytes)))

-- the bytes are those of a class file up to its methods
pub record SpellsHead (bytes : List ℕ) (h : HeadPart) : Type 0 where
  pub pool_fits : PoolFits h.pool
  pub pool_is_sound : AreSound h.pool
  pub after_pool : List ℕ
  pub following : SpellsAfterPool after_pool h
  pub bytes_are : bytes ≡ opening ++ (pool_bytes h.pool ++ after_pool)

-- the parts of some class file
abbrev pub IsHead : HeadPart → Type 0
IsHead h = (bytes : List ℕ) × SpellsHead bytes h

-- ---- the bytes with the attributes that count and no others

abbrev pub list_bytes : {A : Type 0} → (A → List ℕ) → List A → List ℕ
list_bytes spelling xs = u2 (length xs) ++ flat_map spelling xs

abbrev pub after_bytes : HeadPart → List ℕ
after_bytes h = u2 h.flags.0
    ++ (u2 h.class ++ (u2 h.superclass ++ (list_bytes u2 h.interfaces ++ list_bytes field_bytes h.fields)))

abbrev pub head_bytes : HeadPart → List ℕ
head_bytes h = opening ++ (pool_bytes h.pool ++ after_bytes h)
