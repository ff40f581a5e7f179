use Rattle.std.specs.Prelude.{ℕ, List, ◌&&◌, ◌||◌, not, Option}
use Rattle.std.specs.List.{find}
use Rattle.std.specs.Str.{bytes_eq}
use Rattle.model.specs.declared.listings.Method.{Method}
use Rattle.model.specs.ClassListings.{ClassListing}
use Rattle.model.specs.Classes.Flags.{is_private, is_static}
use Rattle.model.specs.Classes.Search.{Declared, first_declared, superclasses}

-- the method of a name and descriptor that a class declares for its objects: neither static nor private. That private
-- methods are skipped is this machine's own rule; the JVMS selects by overriding (5.4.5, 6.5)
abbrev pub virtual_of : List ℕ → List ℕ → ClassListing → Option Method
virtual_of name descriptor c =
    find (λ (m : Method). bytes_eq m.name name && bytes_eq m.descriptor descriptor && not (is_static m || is_private m))
    c.methods

-- the method that is selected for an object (JVMS 6.5, invokevirtual): the nearest from its class upwards
abbrev pub selected : List ClassListing → List ℕ → List ℕ → List ℕ → Option (Declared Method)
selected program class name descriptor = first_declared program (virtual_of name descriptor)
    (superclasses program class)
