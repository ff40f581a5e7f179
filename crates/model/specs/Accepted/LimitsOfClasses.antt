use Rattle.std.specs.Prelude.{ℕ, zero, suc, ◌+◌, List, length, take, slice_get, Bool, false, ◌||◌, not, nat_lt}
use Rattle.std.specs.Prelude.{count_by, Option, Some, None, if◌then◌else◌}
use Rattle.std.specs.List.{find, list_any}
use Rattle.model.specs.declared.listings.Field.{Field}
use Rattle.model.specs.declared.listings.Method.{Method}
use Rattle.model.specs.CodeListings.{CodeListing}
use Rattle.model.specs.ClassListings.{ClassListing}
use Rattle.model.specs.Classes.Flags.{is_static_field, is_static}
use Rattle.model.specs.Classes.Named.{listed, or_else}
use Rattle.model.specs.Signatures.{argument_units}

-- the instance fields that a class declares
abbrev pub own_fields : ClassListing → ℕ
own_fields c = count_by (λ (f : Field). not (is_static_field f)) c.fields

-- the instance fields of a class with those of so many superclasses; the machine's own classes have none
unfoldable pub fields_within : ℕ → List ClassListing → Option ClassListing → ℕ
fields_within steps program None = 0
fields_within zero program (Some c) = own_fields c
fields_within (suc steps) program (Some c) = own_fields c + fields_within steps program (listed program c.superclass)

abbrev pub has_too_many_fields : List ClassListing → ClassListing → Bool
has_too_many_fields program c = nat_lt 256 (fields_within (length program) program (Some c))

-- the units of a method's arguments, with its object where it isn't static
abbrev pub units_to_begin : Method → ℕ
units_to_begin m = argument_units m.descriptor + (if is_static m then 0 else 1)

abbrev pub passes_limits : Method → Option CodeListing → Bool
passes_limits m None = false
passes_limits m (Some code) = nat_lt code.max_locals (units_to_begin m)
    || nat_lt 4096 (code.max_locals + code.max_stack)

-- an object of the class has more than 256 fields, the locals of a method don't hold its arguments, or a frame of it
-- takes more than 4,096 units
unfoldable pub is_too_large : List ClassListing → ClassListing → Bool
is_too_large program c = has_too_many_fields program c || list_any (λ (m : Method). passes_limits m m.code) c.methods

-- L8: the first class past a limit. The 257th is past that of the number of classes
unfoldable pub first_past_limits : List ClassListing → Option ClassListing
first_past_limits program = or_else (find (is_too_large program) (take 256 program)) (slice_get program 256)
