-- Objects keep all words of their classes: as they are made, written and freed.
use Rattle.std.proofs.Common.{◌≡◌, ℕ, zero, suc, List, [], ◌∷◌, set, slice_get, Option, Some, None, ◌∙◌, length-set}
use Rattle.std.proofs.Common.{refl}
use Rattle.std.specs.Prelude.{◌+◌, replicate}
use Rattle.std.specs.Option.{option_map}
use Rattle.std.proofs.lemmas.List.{length-map}
use Rattle.model.specs.declared.journals.HeapShape.{HeapShape}
use Rattle.model.specs.declared.turns.Exception.TheVariants.{StackOverflow}
use Rattle.model.specs.declared.values.Value.{Value}
use Rattle.model.specs.Accounts.{Account}
use Rattle.model.specs.ClassListings.{ClassListing}
use Rattle.linking.specs.declared.class_tables.Word.{Word}
use Rattle.linking.specs.ClassTables.{class_tables, defaults_in, opening_word, words_in}
use Rattle.cells.specs.Objects.{StoredObject, object_if, word_set}
use Rattle.instructions.specs.declared.kinds.Kind.{Kind}
use Rattle.instructions.specs.declared.kinds.Kind.TheVariants.{Instance, Array}
use Rattle.instructions.specs.ByNumbers.{AreStored, HoldsStored, IsStored}
use Rattle.instructions.specs.Heaps.{HeapValue, cleared, created, exception_kind, made, memory_error_kind}
use Rattle.instructions.specs.Heaps.{opening_stored}

-- a new object leaves the heap its shape
pub created-shape : (h : HeapValue) (kind : Kind) (words : List Value) (o : Option (ℕ × Account))
    → (created h kind words o).shape ≡ h.shape
created-shape h kind words None = refl
created-shape h kind words (Some taken) = refl

pub created-classes : (h : HeapValue) (kind : Kind) (words : List Value) (o : Option (ℕ × Account))
    → (created h kind words o).classes ≡ h.classes
created-classes h kind words None = refl
created-classes h kind words (Some taken) = refl

module _ (program : List ClassListing) where
  -- a new object of a class has its words
  pub defaults-stored : (class : ℕ) → IsStored program (Instance class) (defaults_in (class_tables program) class)
  defaults-stored class = length-map {A = Word} {B = Value} (words_in (class_tables program) class) opening_word

  pub held-stored : (objects : List (Option (StoredObject Kind))) (cell : ℕ) → AreStored program objects
      → HoldsStored program (object_if (slice_get objects cell))
  held-stored [] cell stored = tt
  held-stored (o ∷ os) zero stored = stored.0
  held-stored (o ∷ os) (suc cell) stored = held-stored os cell stored.1

  -- one cell gets another object, or none
  pub set-stored : (objects : List (Option (StoredObject Kind))) (cell : ℕ) (o : Option (StoredObject Kind))
      → AreStored program objects → HoldsStored program o
      → AreStored program (set objects cell o)
  set-stored [] cell o stored new = tt
  set-stored (x ∷ xs) zero o stored new = (new, stored.1)
  set-stored (x ∷ xs) (suc cell) o stored new = (stored.0, set-stored xs cell o stored.1 new)

  word-stored : (kind : Kind) (words : List Value) (index : ℕ) (v : Value) → IsStored program kind words
      → IsStored program kind (set words index v)
  word-stored (Instance class) words index v fits = length-set words index v ∙ fits
  word-stored (Array type) words index v fits = fits

  -- a word is written
  pub written-stored : (o : Option (StoredObject Kind)) (index : ℕ) (v : Value) → HoldsStored program o
      → HoldsStored program (option_map (word_set index v) o)
  written-stored None index v fits = tt
  written-stored (Some object) index v fits = word-stored object.kind object.words index v fits

  -- a cell is freed
  pub cleared-stored : (objects : List (Option (StoredObject Kind))) (cell : Option ℕ) → AreStored program objects
      → AreStored program (cleared objects cell)
  cleared-stored objects None stored = stored
  cleared-stored objects (Some cell) stored = set-stored objects cell None stored tt

  -- a new object comes into a cell
  pub created-stored : (h : HeapValue) (kind : Kind) (words : List Value) (o : Option (ℕ × Account))
      → AreStored program h.objects → IsStored program kind words
      → AreStored program (created h kind words o).objects
  created-stored h kind words None stored new = stored
  created-stored h kind words (Some taken) stored new =
      set-stored h.objects taken.0 (Some (made kind words)) stored new

  nobody-stored : (n : ℕ) → AreStored program (replicate n None)
  nobody-stored zero = tt
  nobody-stored (suc n) = (tt, nobody-stored n)

  pub opening-stored : (shape : HeapShape) → IsStored program (memory_error_kind program) []
      → IsStored program (exception_kind program StackOverflow) []
      → AreStored program (opening_stored program shape)
  opening-stored shape first second =
      let count = shape.small + shape.medium + shape.large in
      set-stored (set (replicate count None) 0 (Some (made (memory_error_kind program) []))) 1
      (Some (made (exception_kind program StackOverflow) []))
      (set-stored (replicate count None) 0 (Some (made (memory_error_kind program) [])) (nobody-stored count) first)
      second
