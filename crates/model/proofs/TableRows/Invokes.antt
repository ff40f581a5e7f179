-- Worked rows of the invokes (JVMS 6.5). A declares f()I, B over A a private f()I of its own, C over B none; births 3
-- and 4 are a C and an A.
use Rattle.std.specs.Prelude.{◌≡◌, ℕ, pos, [], ◌∷◌, ◌++◌, List, replicate, codes, Option, Some, None, refl}
use Rattle.model.specs.declared.places.MethodPlace.{MethodPlace}
use Rattle.model.specs.declared.values.Value.{Value}
use Rattle.model.specs.declared.values.Value.TheVariants.{Int, Long, Ref}
use Rattle.model.specs.declared.values.Entry.{Entry}
use Rattle.model.specs.declared.values.Entry.TheVariants.{Unset, Holds, UpperHalf}
use Rattle.model.specs.declared.turns.Fault.TheVariants.{StackEmpty, WrongKind, WrongClass, NoMethod, MonitorLimit}
use Rattle.model.specs.declared.turns.Exception.TheVariants.{NullPointer}
use Rattle.model.specs.declared.instructions.Invocation.{Invocation}
use Rattle.model.specs.declared.instructions.Invocation.TheVariants.{Virtual, Special, Static, Interface}
use Rattle.model.specs.ClassListings.{ClassListing}
use Rattle.model.specs.Classes.Builtin.{builtin_classes}
use Rattle.model.specs.Classes.Search.{upwards, interfaces_from}
use Rattle.model.specs.Classes.Subclasses.{is_within}
use Rattle.model.specs.Classes.Types.{is_subtype_within}
use Rattle.model.specs.Frames.{Frame}
use Rattle.model.specs.Worlds.{World}
use Rattle.model.specs.Worlds.Thread.{Live}
use Rattle.model.specs.Completions.{Completion}
use Rattle.model.specs.Completions.Completion.{Goes, Throws, Raises, Faults, Waits}
use Rattle.model.specs.Table.Invokes.{invoked}
use Rattle.model.proofs.TableRows.Sites.{class, interface, method, abstract_method, member, place, frame, object, world}
use Rattle.model.proofs.TableRows.Sites.{site}

-- ---- the classes

abbrev a : List ℕ
a = codes "A"

abbrev b : List ℕ
b = codes "B"

abbrev c : List ℕ
c = codes "C"

abbrev i : List ℕ
i = codes "I"

abbrev class_a : ClassListing
class_a = class a (codes "java/lang/Object") [] (
    method 1 (codes "f") (codes "()I") 1 1 [] ∷
    method 9 (codes "s") (codes "(IJLA;)V") 1 6 [] ∷
    method 1 (codes "h") (codes "(J)V") 0 4 [] ∷
    abstract_method (codes "n") (codes "()V") ∷
    method 0x0021 (codes "y") (codes "(LA;)V") 2 2 [] ∷
    method 1 (codes "<init>") (codes "()V") 1 1 [] ∷ [])

abbrev class_b : ClassListing
class_b = class b a [] (
    method 2 (codes "f") (codes "()I") 1 1 [] ∷
    method 1 (codes "h") (codes "(J)V") 0 3 [] ∷
    method 2 (codes "p") (codes "()V") 0 1 [] ∷ [])

abbrev class_c : ClassListing
class_c = class c b (i ∷ []) (method 1 (codes "h") (codes "(J)V") 0 3 [] ∷ [])

-- an interface with a method that C has by A, and one that it has nowhere
abbrev class_i : ClassListing
class_i = interface i (abstract_method (codes "f") (codes "()I") ∷ abstract_method (codes "q") (codes "()V") ∷ [])

abbrev program : List ClassListing
program = class_a ∷ class_b ∷ class_c ∷ class_i ∷ []

-- ---- the world: a method of C runs, at pc 6, in a frame with room for 4 units

abbrev at : List Value → Frame
at stack = frame (place 2 0) 6 [] stack 4 None

abbrev standing : List Frame → Option ℕ → ℕ → World
standing frames owner count = world (Live frames ∷ []) (object c owner count None ∷ object a None 0 None ∷ [])

abbrev called_in : List Frame → List Value → Option ℕ → ℕ → Invocation → List ℕ → List ℕ → List ℕ → Completion
called_in below stack owner count how class name descriptor =
    invoked (site program (standing (below ++ at stack ∷ []) owner count) (at stack) 9) how
    (member class name descriptor)

abbrev calls : List Value → Invocation → List ℕ → List ℕ → List ℕ → Completion
calls stack = called_in [] stack None 0

-- the caller stays at its invoke with what is left of its stack, and the callee begins
abbrev enters : List Value → MethodPlace → List Entry → ℕ → List ℕ → Completion
enters left method locals room writes = Goes (standing (at left ∷ frame method 0 locals [] room None ∷ []) None 0)
    writes

abbrev one : Value
one = Int (pos 1)

abbrev three : Value
three = Ref (Some 3)

abbrev null : Value
null = Ref None

-- ---- static: the arguments go into the first locals, a long into two; what is written is written by rising index

static_call : calls (Ref (Some 4) ∷ Long (pos 9) ∷ Int (pos 5) ∷ one ∷ []) Static a (codes "s") (codes "(IJLA;)V")
    ≡ enters (one ∷ []) (place 0 1) (Holds (Int (pos 5)) ∷ Holds (Long (pos 9)) ∷ UpperHalf ∷ Holds (Ref (Some 4))
    ∷ Unset ∷ Unset ∷ []) 1 (4 ∷ [])
unfolding upwards interfaces_from is_within is_subtype_within builtin_classes
static_call = refl

-- found in a superclass
static_inherited : calls (null ∷ Long (pos 9) ∷ Int (pos 5) ∷ []) Static c (codes "s") (codes "(IJLA;)V")
    ≡ enters [] (place 0 1) (Holds (Int (pos 5)) ∷ Holds (Long (pos 9)) ∷ UpperHalf ∷ Holds null ∷ Unset ∷ Unset ∷ []) 1
    []
unfolding upwards interfaces_from is_within is_subtype_within builtin_classes
static_inherited = refl

-- arguments are popped from the top
static_last_wrong : calls (one ∷ []) Static a (codes "s") (codes "(IJLA;)V") ≡ Faults WrongKind
static_last_wrong = refl

static_second_missing : calls (null ∷ []) Static a (codes "s") (codes "(IJLA;)V") ≡ Faults StackEmpty
static_second_missing = refl

static_second_wrong : calls (null ∷ one ∷ []) Static a (codes "s") (codes "(IJLA;)V") ≡ Faults WrongKind
static_second_wrong = refl

static_first_missing : calls (null ∷ Long (pos 9) ∷ []) Static a (codes "s") (codes "(IJLA;)V") ≡ Faults StackEmpty
static_first_missing = refl

-- ---- virtual: from the object's class upwards, past private methods

virtual_past_private : calls (three ∷ one ∷ []) Virtual a (codes "f") (codes "()I")
    ≡ enters (one ∷ []) (place 0 0) (Holds three ∷ []) 1 (3 ∷ [])
unfolding upwards interfaces_from is_within is_subtype_within builtin_classes
virtual_past_private = refl

virtual_nearest : calls (Long (pos 2) ∷ three ∷ one ∷ []) Virtual a (codes "h") (codes "(J)V")
    ≡ enters (one ∷ []) (place 2 0) (Holds three ∷ Holds (Long (pos 2)) ∷ UpperHalf ∷ []) 0 (3 ∷ [])
unfolding upwards interfaces_from is_within is_subtype_within builtin_classes
virtual_nearest = refl

virtual_of_a : calls (Long (pos 2) ∷ Ref (Some 4) ∷ []) Virtual a (codes "h") (codes "(J)V")
    ≡ enters [] (place 0 2) (Holds (Ref (Some 4)) ∷ Holds (Long (pos 2)) ∷ UpperHalf ∷ Unset ∷ []) 0 (4 ∷ [])
unfolding upwards interfaces_from is_within is_subtype_within builtin_classes
virtual_of_a = refl

-- the arguments, then the object, null first, then its class, then the method
virtual_argument : calls (one ∷ null ∷ []) Virtual a (codes "h") (codes "(J)V") ≡ Faults WrongKind
virtual_argument = refl

virtual_no_object : calls (Long (pos 2) ∷ []) Virtual a (codes "h") (codes "(J)V") ≡ Faults StackEmpty
virtual_no_object = refl

virtual_wrong_object : calls (Long (pos 2) ∷ one ∷ []) Virtual a (codes "h") (codes "(J)V") ≡ Faults WrongKind
virtual_wrong_object = refl

virtual_null : calls (null ∷ []) Virtual a (codes "n") (codes "()V") ≡ Raises NullPointer
virtual_null = refl

virtual_wrong_class : calls (Ref (Some 4) ∷ []) Virtual b (codes "p") (codes "()V") ≡ Faults WrongClass
unfolding upwards interfaces_from is_within is_subtype_within builtin_classes
virtual_wrong_class = refl

virtual_abstract : calls (three ∷ []) Virtual a (codes "n") (codes "()V") ≡ Faults NoMethod
unfolding upwards interfaces_from is_within is_subtype_within builtin_classes
virtual_abstract = refl

virtual_private : calls (three ∷ []) Virtual b (codes "p") (codes "()V") ≡ Faults NoMethod
unfolding upwards interfaces_from is_within is_subtype_within builtin_classes
virtual_private = refl

-- ---- interface

interface_call : calls (three ∷ []) (Interface 1) i (codes "f") (codes "()I")
    ≡ enters [] (place 0 0) (Holds three ∷ []) 1 (3 ∷ [])
unfolding upwards interfaces_from is_within is_subtype_within builtin_classes
interface_call = refl

interface_null : calls (null ∷ []) (Interface 1) i (codes "f") (codes "()I") ≡ Raises NullPointer
interface_null = refl

interface_wrong_class : calls (Ref (Some 4) ∷ []) (Interface 1) i (codes "f") (codes "()I") ≡ Faults WrongClass
unfolding upwards interfaces_from is_within is_subtype_within builtin_classes
interface_wrong_class = refl

interface_none : calls (three ∷ []) (Interface 1) i (codes "q") (codes "()V") ≡ Faults NoMethod
unfolding upwards interfaces_from is_within is_subtype_within builtin_classes
interface_none = refl

-- ---- special: C's code calls A's method, and gets the one that C's superclass B has

special_from_superclass : calls (Long (pos 2) ∷ three ∷ []) Special a (codes "h") (codes "(J)V")
    ≡ enters [] (place 1 1) (Holds three ∷ Holds (Long (pos 2)) ∷ UpperHalf ∷ []) 0 (3 ∷ [])
unfolding upwards interfaces_from is_within is_subtype_within builtin_classes
special_from_superclass = refl

-- past B's private f
special_past_private : calls (three ∷ []) Special a (codes "f") (codes "()I")
    ≡ enters [] (place 0 0) (Holds three ∷ []) 1 (3 ∷ [])
unfolding upwards interfaces_from is_within is_subtype_within builtin_classes
special_past_private = refl

-- B's private p isn't found from B on
special_private_above : calls (three ∷ []) Special b (codes "p") (codes "()V") ≡ Faults NoMethod
unfolding upwards interfaces_from is_within is_subtype_within builtin_classes
special_private_above = refl

-- its own is taken as it was resolved
special_own : calls (Long (pos 2) ∷ three ∷ []) Special c (codes "h") (codes "(J)V")
    ≡ enters [] (place 2 0) (Holds three ∷ Holds (Long (pos 2)) ∷ UpperHalf ∷ []) 0 (3 ∷ [])
unfolding upwards interfaces_from is_within is_subtype_within builtin_classes
special_own = refl

-- an initializer too
special_initializer : calls (three ∷ []) Special a (codes "<init>") (codes "()V")
    ≡ enters [] (place 0 5) (Holds three ∷ []) 1 (3 ∷ [])
unfolding upwards interfaces_from is_within is_subtype_within builtin_classes
special_initializer = refl

-- and a superinterface's, which is abstract
special_interface : calls (three ∷ []) Special c (codes "q") (codes "()V") ≡ Faults NoMethod
unfolding upwards interfaces_from is_within is_subtype_within builtin_classes
special_interface = refl

-- the machine's own initializer does nothing
special_own_class : calls (three ∷ one ∷ []) Special (codes "java/lang/Object") (codes "<init>") (codes "()V")
    ≡ Goes (standing (frame (place 2 0) 9 [] (one ∷ []) 4 None ∷ []) None 0) []
unfolding upwards interfaces_from is_within is_subtype_within builtin_classes
special_own_class = refl

special_null : calls (null ∷ []) Special (codes "java/lang/Object") (codes "<init>") (codes "()V") ≡ Raises NullPointer
special_null = refl

special_wrong_class : calls (Ref (Some 4) ∷ []) Special (codes "java/lang/Thread") (codes "<init>") (codes "()V")
    ≡ Faults WrongClass
unfolding upwards interfaces_from is_within is_subtype_within builtin_classes
special_wrong_class = refl

-- ---- synchronized: the object's monitor is entered, and is the method monitor

abbrev synchronized_call : List Frame → Option ℕ → ℕ → Completion
synchronized_call below owner count = called_in below (Ref (Some 4) ∷ three ∷ []) owner count Virtual a (codes "y")
    (codes "(LA;)V")

-- the locals are written, and then the monitor
abbrev enters_monitor : ℕ → Completion
enters_monitor count = Goes (standing (at [] ∷ frame (place 0 4) 0 (Holds three ∷ Holds (Ref (Some 4)) ∷ []) [] 2
    (Some 3) ∷ []) (Some 0) count) (3 ∷ 4 ∷ 3 ∷ [])

synchronized_free : synchronized_call [] None 0 ≡ enters_monitor 1
unfolding upwards interfaces_from is_within is_subtype_within builtin_classes
synchronized_free = refl

synchronized_again : synchronized_call [] (Some 0) 65534 ≡ enters_monitor 65535
unfolding upwards interfaces_from is_within is_subtype_within builtin_classes
synchronized_again = refl

synchronized_full : synchronized_call [] (Some 0) 65535 ≡ Faults MonitorLimit
unfolding upwards interfaces_from is_within is_subtype_within builtin_classes
synchronized_full = refl

synchronized_waits : synchronized_call [] (Some 1) 1 ≡ Waits
unfolding upwards interfaces_from is_within is_subtype_within builtin_classes
synchronized_waits = refl

-- ---- room for the frame: 256 frames of 4,096 units in all; it comes after the wait, and before F10

abbrev below : ℕ → List Frame
below n = replicate n (frame (place 2 0) 6 [] [] 0 None)

abbrev wide : ℕ → List Frame
wide room = frame (place 2 0) 6 [] [] room None ∷ []

too_many_frames : synchronized_call (below 255) None 0 ≡ Throws 2
unfolding upwards interfaces_from is_within is_subtype_within builtin_classes
too_many_frames = refl

too_many_before_full : synchronized_call (below 255) (Some 0) 65535 ≡ Throws 2
unfolding upwards interfaces_from is_within is_subtype_within builtin_classes
too_many_before_full = refl

too_many_waits : synchronized_call (below 255) (Some 1) 1 ≡ Waits
unfolding upwards interfaces_from is_within is_subtype_within builtin_classes
too_many_waits = refl

-- the frame that calls has 4 units, the frame of y 4
too_many_units : synchronized_call (wide 4089) None 0 ≡ Throws 2
unfolding upwards interfaces_from is_within is_subtype_within builtin_classes
too_many_units = refl

just_enough_units : synchronized_call (wide 4088) (Some 0) 65535 ≡ Faults MonitorLimit
unfolding upwards interfaces_from is_within is_subtype_within builtin_classes
just_enough_units = refl

just_enough_frames : synchronized_call (below 254) (Some 0) 65535 ≡ Faults MonitorLimit
unfolding upwards interfaces_from is_within is_subtype_within builtin_classes
just_enough_frames = refl

-- no method comes before the room
too_many_of_none : called_in (below 255) (three ∷ []) None 0 Virtual a (codes "n") (codes "()V") ≡ Faults NoMethod
unfolding upwards interfaces_from is_within is_subtype_within builtin_classes
too_many_of_none = refl
