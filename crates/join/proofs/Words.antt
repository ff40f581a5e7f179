use Rattle.std.proofs.Common.{◌≡◌, ℕ, zero, suc, ◌+◌, List, [], ◌∷◌, map, not, if◌then◌else◌, refl, sym, ◌∙◌, ap}
use Rattle.std.specs.List.{prefix_len}
use Rattle.std.proofs.lemmas.List.{map-set, length-map}
use Rattle.model.specs.declared.listings.Field.{Field}
use Rattle.model.specs.declared.values.Value.{Value}
use Rattle.model.specs.declared.values.Value.TheVariants.{Int, Long, Ref}
use Rattle.model.specs.Stores.{Storage, kept}
use Rattle.model.specs.Stores.Storage.{Ints, Longs, References}
use Rattle.model.specs.Classes.Search.{Declared}
use Rattle.model.specs.declared.colours.Cell.{Cell}
use Rattle.model.specs.Worlds.{World, FieldValue, Contents}
use Rattle.model.specs.Worlds.Contents.{Instance, Array}
use Rattle.model.specs.Objects.{with_object}
use Rattle.model.specs.Words.{is_field, field_index, value_at, with_value_at, word_of, with_word_in, with_word_of}
use Rattle.model.specs.Words.{with_word}
use Rattle.model.specs.Table.Fields.{fields_in}
use Rattle.join.specs.Naming.{Naming, named_value, named_field, named_contents, named_object}
use Rattle.join.specs.OnCells.{on_cells, InCell, ReachedInCells}
use Rattle.join.proofs.Cells.{object_in_cell, put_on_cells}

-- words, those of objects and static fields: where they stand, what they hold and what is put there

module _ (h : Naming) where
  pub value_named : (fields : List FieldValue) (k : ℕ) → value_at (map (named_field h) fields) k
      ≡ named_value h (value_at fields k)
  value_named [] k = refl
  value_named (f ∷ fs) zero = refl
  value_named (f ∷ fs) (suc k) = value_named fs k

  element_named : (element : List ℕ) (values : List Value) (k : ℕ)
      → word_of (Array element (map (named_value h) values)) k ≡ named_value h (word_of (Array element values) k)
  element_named element [] k = refl
  element_named element (v ∷ vs) zero = refl
  element_named element (v ∷ vs) (suc k) = element_named element vs k

  pub word_named : (c : Contents) (k : ℕ) → word_of (named_contents h c) k ≡ named_value h (word_of c k)
  word_named (Instance class fields) k = value_named fields k
  word_named (Array element values) k = element_named element values k

  pub with_value_named : (fields : List FieldValue) (k : ℕ) (v : Value)
      → with_value_at (map (named_field h) fields) k (named_value h v) ≡ map (named_field h) (with_value_at fields k v)
  with_value_named [] k v = refl
  with_value_named (f ∷ fs) zero v = refl
  with_value_named (f ∷ fs) (suc k) v = ap (λ rest. named_field h f ∷ rest) (with_value_named fs k v)

  pub with_word_named : (c : Contents) (k : ℕ) (v : Value) → with_word_in (named_contents h c) k (named_value h v)
      ≡ named_contents h (with_word_in c k v)
  with_word_named (Instance class fields) k v = ap (Instance class) (with_value_named fields k v)
  with_word_named (Array element values) k v = ap (Array element) (sym (map-set (named_value h) values k v))

  pub kept_named : (storage : Storage) (v : Value) → kept storage (named_value h v) ≡ named_value h (kept storage v)
  kept_named (Ints type) (Int z) = refl
  kept_named (Ints type) (Long z) = refl
  kept_named (Ints type) (Ref r) = refl
  kept_named Longs v = refl
  kept_named References v = refl

  prefix_named : (field : Declared Field) (fields : List FieldValue)
      → prefix_len (λ x. not (is_field field x)) (map (named_field h) fields)
      ≡ prefix_len (λ x. not (is_field field x)) fields
  prefix_named field [] = refl
  prefix_named field (f ∷ fs) = ap (λ (n : ℕ). if not (is_field field f) then 1 + n else zero) (prefix_named field fs)

  pub place_named : (field : Declared Field) (fields : List FieldValue) → field_index (map (named_field h) fields) field
      ≡ field_index fields field
  place_named field fields = rw (prefix_named field fields, length-map fields (named_field h)) refl

  pub fields_named : (c : Contents) → fields_in (named_contents h c) ≡ map (named_field h) (fields_in c)
  fields_named (Instance class fields) = refl
  fields_named (Array element values) = refl

  module _ (cells : List Cell) (w : World) (u : ReachedInCells h cells w) where
    pub with_word_on_cells : (b place : ℕ) (v : Value) → InCell h cells w b
        → with_word (on_cells h cells w) (h b) place (named_value h v) ≡ on_cells h cells (with_word w b place v)
    with_word_on_cells b place v s =
        ap (with_word_of (on_cells h cells w) (h b) place (named_value h v)) (object_in_cell h cells w b s)
        ∙ ap (λ c. with_object (on_cells h cells w) (h b) (record (named_object h s.object) { contents = c }))
        (with_word_named s.object.contents place v)
        ∙ sym (put_on_cells h cells w b (record s.object { contents = with_word_in s.object.contents place v }) u.named
        s)
        ∙ ap (λ o. on_cells h cells (with_word_of w b place v o)) (sym s.made)
