use Rattle.std.specs.Prelude.{ℕ, List, [], ◌∷◌, cond, map, slice_get, Option, Some, None}
use Rattle.std.specs.Option.{option_and_then}
use Rattle.std.specs.Str.{bytes_eq}
use Rattle.model.specs.declared.listings.Method.{Method}
use Rattle.model.specs.ClassListings.{ClassListing}
use Rattle.model.specs.Classes.Builtin.{builtin_class, instance_method, static_method}
use Rattle.resolve.specs.declared.builtins.Builtin.{Builtin}
use Rattle.resolve.specs.declared.builtins.Native.{Native}

-- the superclass of the first class with this name
abbrev pub superclass_among : List Builtin → List ℕ → Option (List ℕ)
superclass_among [] name = None
superclass_among (b ∷ bs) name = cond (bytes_eq b.name.now name) (Some b.superclass.now) (superclass_among bs name)

-- a row of the table as a method's listing
abbrev pub native_listing : Native → Method
native_listing n = cond n.is_static (static_method n.name.now n.descriptor.now)
    (instance_method n.name.now n.descriptor.now)

-- a row of the table as a class's listing
abbrev pub own_listing : Builtin → ClassListing
own_listing b = builtin_class b.name.now b.superclass.now (map native_listing b.methods.now)

-- the method at a place of the class at another
abbrev pub method_among : List ClassListing → ℕ → ℕ → Option Method
method_among classes class method = option_and_then (λ (c : ClassListing). slice_get c.methods method)
    (slice_get classes class)
