-- What a world shows of the objects that a heap holds and of the static fields: words read and written.
use Rattle.std.proofs.Common.{◌≡◌, ℕ, zero, suc, List, ◌∷◌, set, slice_get, Option, Some, None, refl, sym, ap, ◌∙◌}
use Rattle.std.specs.Option.{option_map}
use Rattle.std.proofs.lemmas.List.{map-set}
use Rattle.std.proofs.lemmas.Option.{slice_get-map}
use Rattle.model.specs.declared.values.Value.{Value}
use Rattle.model.specs.ClassListings.{ClassListing}
use Rattle.model.specs.Objects.{object_at}
use Rattle.model.specs.Words.{contents_if, contents_at, element_or_null, slot_at, value_at, with_slot, with_value_at}
use Rattle.model.specs.Words.{with_word, with_word_in, with_word_of, word_of}
use Rattle.model.specs.Worlds.{Contents, FieldValue, Object, World}
use Rattle.model.specs.Worlds.Contents.{Instance as InstanceOf}
use Rattle.join.specs.OnCells.{nobody}
use Rattle.cells.specs.Objects.{StoredObject, object_if, word_set, words_if}
use Rattle.instructions.specs.declared.kinds.Kind.{Kind}
use Rattle.instructions.specs.declared.kinds.Kind.TheVariants.{Instance, Array}
use Rattle.instructions.specs.Heaps.{HeapValue, held, words_held, written}
use Rattle.instructions.specs.Shown.{class_name, contents_shown, field_keys, keyed, object_shown, objects_shown}
use Rattle.instructions.proofs.KeyedFields.{value_at-keyed, with_value_at-keyed}

module _ (program : List ClassListing) (h : HeapValue) (w : World)
    (shown : w.objects ≡ objects_shown program h.objects) where
  -- ---- an object

  pub object-shown : (cell : ℕ) → object_at w (suc cell) ≡ option_map (object_shown program) (slice_get h.objects cell)
  object-shown cell =
      ap (λ objects. slice_get objects (suc cell)) shown ∙ slice_get-map (object_shown program) h.objects cell

  word_shown : (kind : Kind) (words : List Value) (place : ℕ)
      → word_of (contents_shown program kind words) place ≡ element_or_null (slice_get words place)
  word_shown (Instance class) words place = value_at-keyed (field_keys program class) words place
  word_shown (Array type) words place = refl

  -- a word of an object, null where there is none
  pub word-shown : (birth place : ℕ)
      → word_of (contents_at w birth) place ≡ element_or_null (slice_get (words_held h birth) place)
  word-shown zero place = ap (λ objects. word_of (contents_if (slice_get objects 0)) place) shown
  word-shown (suc cell) place =
      ap (λ o. word_of (contents_if o) place) (object-shown cell) ∙ by (slice_get h.objects cell)
    where
      by : (o : Option (Option (StoredObject Kind)))
          → word_of (contents_if (option_map (object_shown program) o)) place
          ≡ element_or_null (slice_get (words_if (object_if o)) place)
      by None = refl
      by (Some None) = refl
      by (Some (Some object)) = word_shown object.kind object.words place

  -- ---- a word is written

  contents-written : (kind : Kind) (words : List Value) (place : ℕ) (v : Value)
      → with_word_in (contents_shown program kind words) place v ≡ contents_shown program kind (set words place v)
  contents-written (Instance class) words place v =
      ap (InstanceOf (class_name program class)) (with_value_at-keyed (field_keys program class) words place v)
  contents-written (Array type) words place v = refl

  abbrev with_contents : StoredObject Kind → Contents → Object
  with_contents o contents = record (object_shown program (Some o)) { contents = contents }

  object-written : (o : StoredObject Kind) (place : ℕ) (v : Value)
      → with_contents o (with_word_in (contents_shown program o.kind o.words) place v)
      ≡ object_shown program (Some (word_set place v o))
  object-written o place v = ap (with_contents o) (contents-written o.kind o.words place v)

  abbrev with_objects : List Object → World
  with_objects objects = record w { objects = objects }

  -- a write of an object's word is one in its cell
  pub written-shown : (birth place : ℕ) (v : Value) (o : StoredObject Kind) → held h birth ≡ Some o
      → with_word w birth place v ≡ with_objects (objects_shown program (written h birth place v).objects)
  written-shown zero place v o e = cc
  written-shown (suc cell) place v o e = by (slice_get h.objects cell) refl e
    where
      after : Option (StoredObject Kind) → World
      after o = with_objects (objects_shown program (set h.objects cell (option_map (word_set place v) o)))

      by : (found : Option (Option (StoredObject Kind))) → slice_get h.objects cell ≡ found → object_if found ≡ Some o
          → with_word w (suc cell) place v ≡ after (object_if (slice_get h.objects cell))
      by None is k = cc
      by (Some None) is k = cc
      by (Some (Some x)) is k =
          ap (with_word_of w (suc cell) place v) (object-shown cell ∙ ap (option_map (object_shown program)) is)
          ∙ ap (λ object. with_objects (set w.objects (suc cell) object)) (object-written x place v)
          ∙ ap (λ objects. with_objects (set objects (suc cell) (object_shown program (Some (word_set place v x)))))
          shown
          ∙ ap (λ objects. with_objects (nobody ∷ objects))
          (sym (map-set (object_shown program) h.objects cell (Some (word_set place v x))))
          ∙ sym (ap (λ found. after (object_if found)) is)

-- ---- static fields

module _ (keys : List FieldValue) (slots : List Value) (w : World) (shown : w.statics.fields ≡ keyed keys slots) where
  pub slot-shown : (n : ℕ) → slot_at w n ≡ element_or_null (slice_get slots n)
  slot-shown n = ap (λ fields. value_at fields n) shown ∙ value_at-keyed keys slots n

  abbrev with_fields : List FieldValue → World
  with_fields fields = record w { statics = record { fields = fields; states = w.statics.states } }

  pub slot-written : (n : ℕ) (v : Value) → with_slot w n v ≡ with_fields (keyed keys (set slots n v))
  slot-written n v =
      ap (λ fields. with_fields (with_value_at fields n v)) shown
      ∙ ap with_fields (with_value_at-keyed keys slots n v)
