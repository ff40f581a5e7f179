use Rattle.std.proofs.Common.{◌≡◌, ℕ, ◌+◌, ◌-◌, ℤ, ◌+ℤ◌, List, [], ◌∷◌, map, set, slice_get, nat_le, Bool, true, false}
use Rattle.std.proofs.Common.{Option, Some, None, Result, Ok, Err, refl, sym, ◌∙◌, ap}
use Rattle.std.specs.Option.{option_map}
use Rattle.std.proofs.lemmas.List.{drop-map, map-set, length-map}
use Rattle.std.proofs.lemmas.Option.{slice_get-map}
use Rattle.std.specs.Int.{w32, int_wrap}
use Rattle.model.specs.declared.instructions.LocalAccess.{LocalAccess}
use Rattle.model.specs.declared.instructions.LocalAccess.TheVariants.{Load, Store, Increment as Incremented}
use Rattle.model.specs.declared.turns.Fault.{Fault}
use Rattle.model.specs.declared.values.Kind.{Kind}
use Rattle.model.specs.declared.values.Kind.TheVariants.{Int as IntKind}
use Rattle.model.specs.declared.values.Value.{Value}
use Rattle.model.specs.declared.values.Value.TheVariants.{Int, Long, Ref}
use Rattle.model.specs.declared.values.Entry.{Entry}
use Rattle.model.specs.declared.values.Entry.TheVariants.{Unset, Holds, UpperHalf}
use Rattle.model.specs.Frames.{Frame, as_int}
use Rattle.model.specs.Locals.{has_local, entries_of, value_in_entry, value_if_local, local_at, without_half, freed}
use Rattle.model.specs.Locals.{with_local, stored, stored_if_local}
use Rattle.model.specs.Table.Locals.{local_index, loaded_on, incremented_on, increment_index, increment_amount, local}
use Rattle.join.specs.Naming.{Naming, named_value, named_entry, named_frame, named_moved, named_result}
use Rattle.join.proofs.Naming.{renamed, of_kind_named, value_on_named, births_named, if_room_named}

-- loads, stores and increments of locals come to the same under a naming

module _ (h : Naming) where
  abbrev entries : List Entry → List Entry
  entries es = map (named_entry h) es

  has_named : (kind : Kind) (es : List Entry) (index : ℕ) → has_local kind (entries es) index ≡ has_local kind es index
  has_named kind es index = ap (λ n. nat_le (index + entries_of kind) n) (length-map es (named_entry h))

  in_entry_named : (kind : Kind) (o : Option Entry) → value_in_entry kind (option_map (named_entry h) o)
      ≡ renamed h (named_value h) (value_in_entry kind o)
  in_entry_named kind None = refl
  in_entry_named kind (Some Unset) = refl
  in_entry_named kind (Some (Holds v)) = of_kind_named h kind v
  in_entry_named kind (Some UpperHalf) = refl

  if_local_named : (kind : Kind) (has : Bool) (o : Option Entry)
      → value_if_local kind has (option_map (named_entry h) o) ≡ renamed h (named_value h) (value_if_local kind has o)
  if_local_named kind true o = in_entry_named kind o
  if_local_named kind false o = refl

  pub local_at_named : (kind : Kind) (es : List Entry) (index : ℕ) → local_at kind (entries es) index
      ≡ renamed h (named_value h) (local_at kind es index)
  local_at_named kind es index = rw (
    has_named kind es index,
    slice_get-map (named_entry h) es
        index,
  ) (if_local_named kind (has_local kind es index) (slice_get es index))

  half_named : (es : List Entry) (index : ℕ) (o : Option Entry) → without_half (entries es)
      index (option_map (named_entry h) o) ≡ entries (without_half es index o)
  half_named es index None = refl
  half_named es index (Some Unset) = refl
  half_named es index (Some (Holds (Int z))) = refl
  half_named es index (Some (Holds (Long z))) = sym (map-set (named_entry h) es (index + 1) Unset)
  half_named es index (Some (Holds (Ref r))) = refl
  half_named es index (Some UpperHalf) = sym (map-set (named_entry h) es (index - 1) Unset)

  freed_named : (es : List Entry) (index : ℕ) → freed (entries es) index ≡ entries (freed es index)
  freed_named es index = ap (without_half (entries es) index) (slice_get-map (named_entry h) es index) ∙ half_named es
      index (slice_get es index)

  with_local_named : (es : List Entry) (index : ℕ) (v : Value) → with_local (entries es) index (named_value h v)
      ≡ entries (with_local es index v)
  with_local_named es index (Int z) = ap (λ xs. set xs index (Holds (Int z))) (freed_named es index)
      ∙ sym (map-set (named_entry h) (freed es index) index (Holds (Int z)))
  with_local_named es index (Long z) =
      ap (λ xs. set (set (freed xs (index + 1)) index (Holds (Long z))) (index + 1) UpperHalf) (freed_named es index)
      ∙ ap (λ xs. set (set xs index (Holds (Long z))) (index + 1) UpperHalf) (freed_named (freed es index) (index + 1))
      ∙ ap (λ xs. set xs (index + 1) UpperHalf) (sym (map-set (named_entry h) (freed (freed es index) (index + 1))
      index (Holds (Long z))))
      ∙ sym (map-set (named_entry h) (set (freed (freed es index) (index + 1)) index (Holds (Long z))) (index + 1)
      UpperHalf)
  with_local_named es index (Ref r) = ap (λ xs. set xs index (named_entry h (Holds (Ref r)))) (freed_named es index)
      ∙ sym (map-set (named_entry h) (freed es index) index (Holds (Ref r)))

  stored_named : (next : ℕ) (f : Frame) (n index : ℕ) (v : Value) → stored next (named_frame h f) n
      index (named_value h v) ≡ named_moved h (stored next f n index v)
  stored_named next f n index v = rw (
    with_local_named f.locals index v,
    drop-map (named_value h) n f.stack,
    births_named h (v ∷ []),
  ) refl

  store_if_named : (next : ℕ) (f : Frame) (index : ℕ) (has : Bool) (r : Result Value Fault)
      → stored_if_local next (named_frame h f) index has (renamed h (named_value h) r)
      ≡ named_result h (stored_if_local next f index has r)
  store_if_named next f index has (Err e) = refl
  store_if_named next f index true (Ok v) = ap Ok (stored_named next f 1 index v)
  store_if_named next f index false (Ok v) = refl

  loaded_named : (next : ℕ) (f : Frame) (r : Result Value Fault)
      → loaded_on next (named_frame h f) (renamed h (named_value h) r) ≡ named_result h (loaded_on next f r)
  loaded_named next f (Err e) = refl
  loaded_named next f (Ok v) = if_room_named h next f 0 (v ∷ [])

  int_same : (r : Result Value Fault) → as_int (renamed h (named_value h) r) ≡ as_int r
  int_same (Err e) = refl
  int_same (Ok (Int z)) = refl
  int_same (Ok (Long z)) = refl
  int_same (Ok (Ref r)) = refl

  incremented_named : (next : ℕ) (f : Frame) (index : ℕ) (amount : ℤ) (r : Result ℤ Fault)
      → incremented_on next (named_frame h f) index amount r ≡ named_result h (incremented_on next f index amount r)
  incremented_named next f index amount (Err e) = refl
  incremented_named next f index amount (Ok z) = ap Ok (stored_named next f 0 index (Int (int_wrap w32 (z +ℤ amount))))

  pub local_named : (next : ℕ) (access : LocalAccess) (f : Frame) → local next access (named_frame h f)
      ≡ named_result h (local next access f)
  local_named next (Load kind place) f = ap (loaded_on next (named_frame h f))
      (local_at_named kind f.locals (local_index place)) ∙ loaded_named next f _
  local_named next (Store kind place) f = rw (
    has_named kind f.locals (local_index place),
    value_on_named h kind f.stack,
  ) (store_if_named next f (local_index place) _ _)
  local_named next (Incremented i) f =
      ap (incremented_on next (named_frame h f) (increment_index i) (increment_amount i))
      (ap as_int (local_at_named IntKind f.locals (increment_index i)) ∙ int_same _)
      ∙ incremented_named next f (increment_index i) (increment_amount i) _
