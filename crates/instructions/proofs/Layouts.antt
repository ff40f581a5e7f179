-- The words of a superclass are the first ones of a class's objects, and each word is that of a field of a class above.
use Rattle.std.proofs.Common.{◌≡◌, inl, inr, ℕ, List, [], ◌∷◌, ◌++◌, not, filter, flat_map, map, reverse, Option, Some}
use Rattle.std.proofs.Common.{None, refl, ap, ◌∙◌}
use Rattle.std.specs.List.{find}
use Rattle.std.proofs.lemmas.Grind.{flat_map-append}
use Rattle.std.proofs.lemmas.List.{reverse-append}
use Rattle.model.specs.declared.listings.Field.{Field}
use Rattle.model.specs.ClassListings.{ClassListing}
use Rattle.model.specs.Accepted.BuiltinNames.{has_builtin_name}
use Rattle.model.specs.Classes.Flags.{is_static_field}
use Rattle.model.specs.Classes.Layout.{instance_fields_in, layout}
use Rattle.model.specs.Classes.Named.{class_named}
use Rattle.model.specs.Classes.Search.{Declared, superclasses}
use Rattle.model.specs.Classes.Subclass.{HasName}
use Rattle.resolve.specs.Hierarchies.{IsHierarchy}
use Rattle.instructions.proofs.ListPlaces.{Each, each-append, each-reverse}
use Rattle.instructions.proofs.Upwards.{superclasses-following}

-- a list begins with another
pub record BeginsWith {A : Type 0} (first whole : List A) : Type 0 where
  pub rest : List A
  pub joined : whole ≡ first ++ rest

module _ (program : List ClassListing) where
  abbrev fields_named : List ℕ → List (Declared Field)
  fields_named name = instance_fields_in name (class_named program name)

  pub layout-begins : IsHierarchy program → find has_builtin_name program ≡ None → (name above : List ℕ)
      → HasName (superclasses program name) above
      → BeginsWith (layout program above) (layout program name)
  layout-begins hierarchy hides name above there =
      let way = superclasses-following program hierarchy hides name above there in
      record {
        rest = flat_map fields_named (reverse way.before);
        joined =
            ap (λ names. flat_map fields_named (reverse names)) way.joined
            ∙ ap (flat_map fields_named) (reverse-append way.before (superclasses program above))
            ∙ flat_map-append fields_named (reverse (superclasses program above)) (reverse way.before);
      }

  -- ---- the classes of the fields

  abbrev IsOf : List (List ℕ) → Declared Field → Type 0
  IsOf names field = HasName names field.class

  own_fields : (name : List ℕ) (names : List (List ℕ)) (fields : List Field) → HasName names name
      → Each (IsOf names) (map (λ (f : Field). record { class = name; member = f }) fields)
  own_fields name names [] h = tt
  own_fields name names (f ∷ fs) h = (h, own_fields name names fs h)

  fields_of_class : (name : List ℕ) (names : List (List ℕ)) (c : Option ClassListing) → HasName names name
      → Each (IsOf names) (instance_fields_in name c)
  fields_of_class name names None h = tt
  fields_of_class name names (Some c) h =
      own_fields name names (filter (λ (f : Field). not (is_static_field f)) c.fields) h

  fields_of : (all names : List (List ℕ)) → Each (HasName all) names → Each (IsOf all) (flat_map fields_named names)
  fields_of all [] h = tt
  fields_of all (name ∷ names) h =
      each-append (IsOf all) (fields_named name) (flat_map fields_named names)
      (fields_of_class name all (class_named program name) h.0)
      (fields_of all names h.1)

  all_named : (all names : List (List ℕ)) → ((name : List ℕ) → HasName names name → HasName all name)
      → Each (HasName all) names
  all_named all [] h = tt
  all_named all (name ∷ names) h = (h name (inl refl), all_named all names (λ n k. h n (inr k)))

  -- each field is declared by the class or one above it
  pub layout-classes : (name : List ℕ)
      → Each (λ (field : Declared Field). HasName (superclasses program name) field.class) (layout program name)
  layout-classes name =
      fields_of (superclasses program name) (reverse (superclasses program name))
      (each-reverse (HasName (superclasses program name)) (superclasses program name)
      (all_named (superclasses program name) (superclasses program name) (λ n k. k)))
