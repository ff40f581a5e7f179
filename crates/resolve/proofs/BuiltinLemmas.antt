use Rattle.std.proofs.Common.{◌≡◌, ℕ, List, [], ◌∷◌, cond, map, slice_get, Bool, true, false, Option, Some, None}
use Rattle.std.proofs.Common.{refl, sym, ap, ◌∙◌}
use Rattle.std.specs.List.{find}
use Rattle.std.specs.Option.{option_and_then, option_map}
use Rattle.std.specs.Str.{bytes_eq}
use Rattle.model.specs.ClassListings.{ClassListing}
use Rattle.model.specs.Classes.Named.{is_named}
use Rattle.std.proofs.lemmas.Option.{slice_get-map}
use Rattle.resolve.specs.Builtins.{method_among, native_listing, own_listing}
use Rattle.resolve.specs.declared.builtins.Builtin.{Builtin}

-- the superclass of the first class with this name
abbrev pub superclass_in : List ClassListing → List ℕ → Option (List ℕ)
superclass_in [] name = None
superclass_in (c ∷ cs) name = cond (bytes_eq c.name name) (Some c.superclass) (superclass_in cs name)

abbrev superclass_if : Bool → Option ClassListing → Option ClassListing → Option (List ℕ)
superclass_if b one other = option_map (λ (c : ClassListing). c.superclass) (cond b one other)

superclass_if-cond : (b : Bool) (one other : Option ClassListing)
    → superclass_if b one other ≡ cond b (option_map (λ (c : ClassListing). c.superclass) one)
    (option_map (λ (c : ClassListing). c.superclass) other)
superclass_if-cond true one other = refl
superclass_if-cond false one other = refl

pub option_map-find : (cs : List ClassListing) (name : List ℕ)
    → option_map (λ (c : ClassListing). c.superclass) (find (is_named name) cs) ≡ superclass_in cs name
option_map-find [] name = refl
option_map-find (c ∷ cs) name = rw (
  superclass_if-cond (bytes_eq c.name name) (Some c) (find (is_named name) cs),
  option_map-find cs name,
)

-- ---- the method at a place

pub native-found : (bs : List Builtin) (class method : ℕ) (b : Builtin) → Some b ≡ slice_get bs class
    → option_map native_listing (slice_get b.methods.now method) ≡ method_among (map own_listing bs) class method
native-found bs class method b there =
    sym (slice_get-map native_listing b.methods.now method)
    ∙ sym (ap (option_and_then (λ (c : ClassListing). slice_get c.methods method))
    (slice_get-map own_listing bs class ∙ ap (option_map own_listing) (sym there)))

pub no-native : (bs : List Builtin) (class method : ℕ) → None ≡ slice_get bs class
    → None ≡ method_among (map own_listing bs) class method
no-native bs class method none =
    sym (ap (option_and_then (λ (c : ClassListing). slice_get c.methods method))
    (slice_get-map own_listing bs class ∙ ap (option_map own_listing) (sym none)))
