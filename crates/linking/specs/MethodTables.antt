use Rattle.std.specs.Prelude.{ℕ, List, [], ◌∷◌, ◌++◌, length, map, nat_lt, slice_get, Bool, true, false}
use Rattle.std.specs.Prelude.{Option, Some, None, Vec}
use Rattle.std.specs.Global.{Global}
use Rattle.std.specs.Option.{option_and_then}
use Rattle.model.specs.declared.builtins.Builtin.{Builtin}
use Rattle.model.specs.declared.listings.ExceptionRow.{ExceptionRow}
use Rattle.model.specs.declared.listings.Method.{Method}
use Rattle.model.specs.declared.places.MethodPlace.{MethodPlace}
use Rattle.model.specs.ClassListings.{ClassListing}
use Rattle.model.specs.Classes.Builtin.{builtin_classes}
use Rattle.model.specs.CodeListings.{CodeListing}
use Rattle.model.specs.Programs.{builtin_of, empty_initializer, is_class_initializer}
use Rattle.model.specs.Signatures.{argument_kinds, argument_units, result_kind}
use Rattle.linking.specs.declared.method_tables.Body.{Body}
use Rattle.linking.specs.declared.method_tables.Body.TheVariants.{NoCode, Own, Coded}
use Rattle.linking.specs.declared.method_tables.Catch.{Catch}
use Rattle.linking.specs.declared.method_tables.Catch.TheVariants.{Any, Class}
use Rattle.linking.specs.declared.method_tables.Row.{Row}
use Rattle.linking.specs.ClassNumbers.{class_place}
use Rattle.linking.specs.MethodFacts.{MethodFacts}

-- ---- what is known of a method

abbrev pub catch_of : List ClassListing → Option (List ℕ) → Catch
catch_of program None = Any
catch_of program (Some name) = Class (class_place program name)

abbrev pub row_of : List ClassListing → ExceptionRow → Row
row_of program r = record { start = r.start; end = r.end; handler = r.handler; class = catch_of program r.class }

abbrev pub rows_of : List ClassListing → Option CodeListing → List Row
rows_of program None = []
rows_of program (Some code) = map (row_of program) code.rows

abbrev pub body_by : Option Builtin → Option CodeListing → Body
body_by (Some builtin) code = Own builtin
body_by None None = NoCode
body_by None (Some code) = Coded code.max_locals code.max_stack

-- what a method has to run that the class of a name declares
abbrev pub body_of : List ℕ → Method → Body
body_of class m = body_by (builtin_of (record { class = class; name = m.name; descriptor = m.descriptor })) m.code

abbrev pub method_facts : List ClassListing → List ℕ → Method → MethodFacts
method_facts program class m = record {
  flags = m.flags;
  is_initializer = is_class_initializer m;
  arguments = argument_kinds m.descriptor;
  argument_units = argument_units m.descriptor;
  kind = result_kind m.descriptor;
  body = body_of class m;
  rows = rows_of program m.code;
}

-- ---- what is known of the methods of each class, by its number

-- of a class of the program, its empty initializer after the last method
abbrev pub class_methods : List ClassListing → ClassListing → List MethodFacts
class_methods program c =
    map (method_facts program c.name) c.methods ++ method_facts program c.name empty_initializer ∷ []

-- of one of the machine's own classes
abbrev pub own_methods : List ClassListing → ClassListing → List MethodFacts
own_methods program c = map (method_facts program c.name) c.methods

abbrev pub method_tables : List ClassListing → List (List MethodFacts)
method_tables program = map (class_methods program) program ++ map (own_methods program) builtin_classes

-- a list for each vector
abbrev pub lists : List (Vec MethodFacts Global) → List (List MethodFacts)
lists tables = map (λ (t : Vec MethodFacts Global). t.items) tables

-- what the tables say of the method at a place
abbrev pub facts_at : List (List MethodFacts) → MethodPlace → Option MethodFacts
facts_at tables place =
    option_and_then (λ (methods : List MethodFacts). slice_get methods place.method) (slice_get tables place.class)

abbrev pub facts_if : Bool → Option MethodFacts → Option MethodFacts
facts_if true facts = facts
facts_if false facts = None

-- the same of a class of the program; frames run no method of the machine's own classes
abbrev pub facts_in : List ClassListing → MethodPlace → Option MethodFacts
facts_in program place = facts_if (nat_lt place.class (length program)) (facts_at (method_tables program) place)
