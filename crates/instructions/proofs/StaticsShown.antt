-- The static fields under their names, one after another.
use Rattle.std.proofs.Common.{◌≡◌, ℕ, zero, suc, ◌+◌, ◌≤◌, List, [], ◌∷◌, ◌++◌, drop, filter, get_or, length, map}
use Rattle.std.proofs.Common.{slice_get, Some, None, refl, sym, ◌∙◌, ap, arith}
use Rattle.std.proofs.lemmas.List.{append_assoc, length-map, map-append}
use Rattle.model.specs.declared.listings.Field.{Field}
use Rattle.model.specs.declared.values.Value.{Value}
use Rattle.model.specs.declared.values.Value.TheVariants.{Ref}
use Rattle.model.specs.ClassListings.{ClassListing}
use Rattle.model.specs.Classes.Flags.{is_static_field}
use Rattle.model.specs.Worlds.{FieldValue, opening_slot, opening_slots, opening_slots_of}
use Rattle.instructions.specs.Shown.{keyed}
use Rattle.instructions.specs.StaticKeys.{keys_of, static_key, static_keys}

-- ---- one more is shown

abbrev pub holding : FieldValue → Value → FieldValue
holding key word = record key { value = word }

at_place : (keys : List FieldValue) (words : List Value) (n : ℕ) (key : FieldValue) (word : Value)
    → length words ≤ length keys → key ≡ get_or keys n key → slice_get words n ≡ Some word
    → keyed (drop n keys) (drop n words) ≡ holding key word ∷ keyed (drop (suc n) keys) (drop (suc n) words)
at_place keys [] n key word few is held = absurd (cc)
at_place [] (w ∷ words) n key word few is held = absurd (omega (arith, few))
at_place (k ∷ keys) (w ∷ words) zero key word few is held =
    let same : w ≡ word = cc in rw (is, same) refl
at_place (k ∷ keys) (w ∷ words) (suc n) key word few is held = at_place keys words n key word (omega (arith, few)) is
    held

pub next_static : (F : FieldValue → FieldValue) (keys : List FieldValue) (words : List Value) (n : ℕ)
    (key : FieldValue) (word : Value) (views after : List FieldValue) (view : FieldValue)
    → length words ≤ length keys → key ≡ get_or keys n key → slice_get words n ≡ Some word
    → view ≡ F (holding key word) → after ≡ views ++ view ∷ []
    → after ++ map F (keyed (drop (n + 1) keys) (drop (n + 1) words))
    ≡ views ++ map F (keyed (drop n keys) (drop n words))
next_static F keys words n key word views after view few is held shown more =
    let next : n + 1 ≡ suc n = omega arith in
    let following = map F (keyed (drop (suc n) keys) (drop (suc n) words)) in
    rw (more, next)
    (append_assoc views (view ∷ []) following
    ∙ ap (λ (v : FieldValue). views ++ v ∷ following) shown
    ∙ ap (λ fs. views ++ map F fs) (sym (at_place keys words n key word few is held)))

-- ---- the names alone count

abbrev emptied : FieldValue → FieldValue
emptied f = record f { value = Ref None }

keyed_emptied : (keys : List FieldValue) (words : List Value) → keyed (map emptied keys) words ≡ keyed keys words
keyed_emptied keys [] = refl
keyed_emptied [] (w ∷ words) = refl
keyed_emptied (k ∷ keys) (w ∷ words) = ap (λ fs. holding k w ∷ fs) (keyed_emptied keys words)

emptied_slots : (class : List ℕ) (fields : List Field) → map emptied (map (opening_slot class) fields)
    ≡ map (static_key class) fields
emptied_slots class [] = refl
emptied_slots class (f ∷ fields) = ap (λ fs. static_key class f ∷ fs) (emptied_slots class fields)

emptied_all : (program : List ClassListing) → map emptied (opening_slots program) ≡ static_keys program
emptied_all [] = refl
emptied_all (c ∷ program) =
    map-append emptied (opening_slots_of c) (opening_slots program)
    ∙ ap (λ fs. fs ++ map emptied (opening_slots program)) (emptied_slots c.name (filter is_static_field c.fields))
    ∙ ap (λ fs. keys_of c.name c.fields ++ fs) (emptied_all program)

pub keys_name : (program : List ClassListing) (words : List Value) → keyed (static_keys program) words
    ≡ keyed (opening_slots program) words
keys_name program words = ap (λ keys. keyed keys words) (sym (emptied_all program))
    ∙ keyed_emptied (opening_slots program) words

pub keys_count : (program : List ClassListing) → length (static_keys program) ≡ length (opening_slots program)
keys_count program = ap length (sym (emptied_all program)) ∙ length-map (opening_slots program) emptied
