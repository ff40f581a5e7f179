use Rattle.std.specs.Prelude.{ℕ, List, [], ◌∷◌, Bool, ◌&&◌, ◌||◌, codes, Option, if◌then◌else◌}
use Rattle.std.specs.List.{find}
use Rattle.std.specs.Str.{bytes_eq}
use Rattle.model.specs.declared.listings.Field.{Field}
use Rattle.model.specs.declared.listings.Method.{Method}
use Rattle.model.specs.declared.names.Member.{Member}
use Rattle.model.specs.ClassListings.{ClassListing}
use Rattle.model.specs.Classes.Search.{Declared, first_declared, field_order, method_order}

-- the field that a class declares under a name and descriptor
abbrev pub field_of : List ℕ → List ℕ → ClassListing → Option Field
field_of name descriptor c = find (λ (f : Field). bytes_eq f.name name && bytes_eq f.descriptor descriptor) c.fields

-- the method that a class declares under a name and descriptor
abbrev pub method_of : List ℕ → List ℕ → ClassListing → Option Method
method_of name descriptor c = find (λ (m : Method). bytes_eq m.name name && bytes_eq m.descriptor descriptor) c.methods

-- the field to which a reference is resolved (JVMS 5.4.3.2)
abbrev pub resolved_field : List ClassListing → Member → Option (Declared Field)
resolved_field program m = first_declared program (field_of m.name m.descriptor) (field_order program m.class)

-- an instance or class initializer (JVMS 2.9)
abbrev pub is_initializer : List ℕ → Bool
is_initializer name = bytes_eq name (codes "<init>") || bytes_eq name (codes "<clinit>")

-- the method to which a reference is resolved (JVMS 5.4.3.3); an initializer is found only in the class that is named
abbrev pub resolved_method : List ClassListing → Member → Option (Declared Method)
resolved_method program m =
    first_declared program (method_of m.name m.descriptor)
    (if is_initializer m.name then m.class ∷ [] else method_order program m.class)
