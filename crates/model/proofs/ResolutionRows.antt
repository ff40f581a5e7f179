-- Worked rows: which members references are resolved to, which methods are selected for objects, and what is laid out.
use Rattle.std.specs.Prelude.{◌≡◌, ℕ, List, [], ◌∷◌, ◌++◌, replicate, true, false, Option, Some, None, codes, refl}
use Rattle.model.specs.declared.instructions.ArrayOperation.TheVariants.{NewOf}
use Rattle.model.specs.declared.instructions.ClassOperation.TheVariants.{New}
use Rattle.model.specs.declared.instructions.Invocation.TheVariants.{Virtual, Special, Static, Interface}
use Rattle.model.specs.declared.instructions.Instruction.TheVariants.{Invoke, Class, Array}
use Rattle.model.specs.declared.listings.Field.{Field}
use Rattle.model.specs.declared.listings.Method.{Method}
use Rattle.model.specs.declared.names.Member.{Member}
use Rattle.model.specs.ClassListings.{ClassListing}
use Rattle.model.specs.Classes.Builtin.{builtin_classes, instance_method}
use Rattle.model.specs.Classes.Layout.{layout}
use Rattle.model.specs.Classes.Resolution.{resolved_field, resolved_method}
use Rattle.model.specs.Classes.Search.{Declared, upwards, interfaces_from}
use Rattle.model.specs.Classes.Selection.{selected}
use Rattle.model.specs.Classes.Subclasses.{is_within}
use Rattle.model.specs.Classes.Types.{is_there_within, is_subtype_within, is_subtype}
use Rattle.model.specs.Accepted.References.{resolves}

-- ---- classes

abbrev pub object : List ℕ
object = codes "java/lang/Object"

abbrev method : ℕ → List ℕ → List ℕ → Method
method flags name descriptor = record {
  flags = record { 0 = flags };
  name = name;
  descriptor = descriptor;
  code = None;
}

abbrev field : ℕ → List ℕ → List ℕ → Field
field flags name descriptor = record {
  flags = record { 0 = flags };
  name = name;
  descriptor = descriptor;
  constant = None;
}

abbrev class_of : ℕ → List ℕ → List ℕ → List (List ℕ) → List Field → List Method → ClassListing
class_of flags name superclass interfaces fields methods = record {
  name = name;
  flags = record { 0 = flags };
  superclass = superclass;
  interfaces = interfaces;
  fields = fields;
  methods = methods;
}

abbrev member : List ℕ → List ℕ → List ℕ → Member
member class name descriptor = record { class = class; name = name; descriptor = descriptor }

abbrev found : {M : Type 0} → List ℕ → M → Option (Declared M)
found class m = Some (record { class = class; member = m })

abbrev pub f : ℕ → Method
f flags = method flags (codes "f") (codes "()I")

-- ---- A has an f, B over A a private one, C over B none

abbrev pub private_between : List ClassListing
private_between =
    class_of 1 (codes "A") object [] [] (f 1 ∷ []) ∷
    class_of 1 (codes "B") (codes "A") [] [] (f 2 ∷ []) ∷
    class_of 1 (codes "C") (codes "B") [] [] [] ∷ []

-- a call of A's f on a C passes over the private one
selected_above_private : selected private_between (codes "C") (codes "f") (codes "()I") ≡ found (codes "A") (f 1)
unfolding builtin_classes upwards
selected_above_private = refl

-- and a reference to B's f is resolved to it
resolved_private : resolved_method private_between (member (codes "C") (codes "f") (codes "()I"))
    ≡ found (codes "B") (f 2)
unfolding builtin_classes upwards interfaces_from
resolved_private = refl

-- ---- an interface J with an f, and a class D that implements it without one

abbrev without_f : List ClassListing
without_f =
    class_of 0x0601 (codes "J") object [] [] (f 0x0401 ∷ []) ∷
    class_of 1 (codes "D") object (codes "J" ∷ []) [] [] ∷ []

resolved_in_interface : resolved_method without_f (member (codes "D") (codes "f") (codes "()I"))
    ≡ found (codes "J") (f 0x0401)
unfolding builtin_classes upwards interfaces_from
resolved_in_interface = refl

none_selected : selected without_f (codes "D") (codes "f") (codes "()I") ≡ None
unfolding builtin_classes upwards
none_selected = refl

-- the count of invokeinterface is that of the object and the arguments
interface_call : resolves without_f (Invoke (Interface 1) (member (codes "J") (codes "f") (codes "()I"))) ≡ true
unfolding builtin_classes upwards interfaces_from
interface_call = refl

interface_call_of_2 : resolves without_f (Invoke (Interface 2) (member (codes "J") (codes "f") (codes "()I"))) ≡ false
unfolding builtin_classes upwards interfaces_from
interface_call_of_2 = refl

-- a class where an interface is wanted, and an interface where a class is
interface_call_on_class : resolves without_f (Invoke (Interface 1) (member (codes "D") (codes "f") (codes "()I")))
    ≡ false
unfolding builtin_classes upwards interfaces_from
interface_call_on_class = refl

virtual_call_on_interface : resolves without_f (Invoke Virtual (member (codes "J") (codes "f") (codes "()I"))) ≡ false
unfolding builtin_classes upwards interfaces_from
virtual_call_on_interface = refl

-- static where an instance method is wanted
static_call : resolves without_f (Invoke Static (member (codes "D") (codes "f") (codes "()I"))) ≡ false
unfolding builtin_classes upwards interfaces_from
static_call = refl

new_interface : resolves without_f (Class New (codes "J")) ≡ false
unfolding builtin_classes
new_interface = refl

new_class : resolves without_f (Class New (codes "D")) ≡ true
unfolding builtin_classes
new_class = refl

-- ---- A, B over A, C over B; f in A and C

abbrev f_above_and_below : List ClassListing
f_above_and_below =
    class_of 1 (codes "A") object [] [] (f 1 ∷ []) ∷
    class_of 1 (codes "B") (codes "A") [] [] [] ∷
    class_of 1 (codes "C") (codes "B") [] [] (f 1 ∷ []) ∷ []

-- from B, whose superclass is A, a special call of A's f finds A's, though C has one of its own
special_from_b : selected f_above_and_below (codes "A") (codes "f") (codes "()I") ≡ found (codes "A") (f 1)
unfolding builtin_classes upwards
special_from_b = refl

virtual_on_c : selected f_above_and_below (codes "C") (codes "f") (codes "()I") ≡ found (codes "C") (f 1)
unfolding builtin_classes upwards
virtual_on_c = refl

-- ---- a field is sought in the superinterfaces before the superclass, a method in the superclass before the
-- superinterfaces

abbrev x : ℕ → Field
x flags = field flags (codes "x") (codes "I")

abbrev two_ways : List ClassListing
two_ways =
    class_of 1 (codes "C") object [] (x 1 ∷ []) (f 1 ∷ []) ∷
    class_of 0x0601 (codes "J") object [] (x 0x19 ∷ []) (f 0x0401 ∷ []) ∷
    class_of 0x0601 (codes "K") object (codes "J" ∷ []) [] [] ∷
    class_of 1 (codes "D") (codes "C") (codes "K" ∷ []) [] [] ∷ []

field_of_interface : resolved_field two_ways (member (codes "D") (codes "x") (codes "I")) ≡ found (codes "J") (x 0x19)
unfolding builtin_classes upwards interfaces_from
field_of_interface = refl

method_of_superclass : resolved_method two_ways (member (codes "D") (codes "f") (codes "()I")) ≡ found (codes "C") (f 1)
unfolding builtin_classes upwards interfaces_from
method_of_superclass = refl

-- ---- the machine's own classes

abbrev thread : List ClassListing
thread = class_of 1 (codes "T") (codes "java/lang/Thread") [] [] [] ∷ []

start_of_thread : resolved_method thread (member (codes "T") (codes "start") (codes "()V"))
    ≡ found (codes "java/lang/Thread") (instance_method (codes "start") (codes "()V"))
unfolding builtin_classes upwards interfaces_from
start_of_thread = refl

-- an initializer is found in the class that is named alone
initializer_above : resolves thread (Invoke Special (member (codes "T") (codes "<init>") (codes "()V"))) ≡ false
unfolding builtin_classes
initializer_above = refl

initializer_named : resolves thread (Invoke Special (member (codes "java/lang/Thread") (codes "<init>") (codes "()V")))
    ≡ true
unfolding builtin_classes
initializer_named = refl

no_initializer : resolves thread (Invoke Special (member (codes "vm/Sys") (codes "<init>") (codes "()V"))) ≡ false
unfolding builtin_classes
no_initializer = refl

-- ---- the layout of objects: the superclass's fields first, without static ones

abbrev fields_above : List ClassListing
fields_above =
    class_of 1 (codes "A") object [] (x 1 ∷ x 9 ∷ field 1 (codes "y") (codes "J") ∷ []) [] ∷
    class_of 1 (codes "B") (codes "A") [] (x 1 ∷ []) [] ∷ []

layout_of_b : layout fields_above (codes "B")
    ≡ record { class = codes "A"; member = x 1 } ∷ record {
      class = codes "A";
      member = field 1 (codes "y") (codes "J");
    } ∷ record { class = codes "B"; member = x 1 } ∷ []
unfolding builtin_classes upwards
layout_of_b = refl

-- ---- arrays

subtype_of_object : is_subtype thread (codes "[[I") object ≡ true
unfolding builtin_classes is_within is_subtype_within
subtype_of_object = refl

subtype_by_elements : is_subtype thread (codes "[LT;") (codes "[Ljava/lang/Thread;") ≡ true
unfolding builtin_classes is_within is_subtype_within
subtype_by_elements = refl

no_subtype_upwards : is_subtype thread (codes "[Ljava/lang/Thread;") (codes "[LT;") ≡ false
unfolding builtin_classes is_within is_subtype_within
no_subtype_upwards = refl

subtype_by_arrays : is_subtype thread (codes "[[I") (codes "[Ljava/lang/Object;") ≡ true
unfolding builtin_classes is_within is_subtype_within
subtype_by_arrays = refl

no_subtype_of_numbers : is_subtype thread (codes "[I") (codes "[J") ≡ false
unfolding builtin_classes is_within is_subtype_within
no_subtype_of_numbers = refl

-- an array of 254 dimensions may be an element, one of 255 may not
elements_of_254_dimensions : resolves thread (Array (NewOf (replicate 254 91 ++ codes "I"))) ≡ true
unfolding is_there_within
elements_of_254_dimensions = refl

elements_of_255_dimensions : resolves thread (Array (NewOf (replicate 255 91 ++ codes "I"))) ≡ false
unfolding is_there_within
elements_of_255_dimensions = refl

elements_of_no_class : resolves thread (Array (NewOf (codes "[LNone;"))) ≡ false
unfolding builtin_classes is_there_within
elements_of_no_class = refl
