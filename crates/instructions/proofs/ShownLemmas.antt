use Rattle.std.proofs.Common.{◌≡◌, ℕ, zero, suc, ◌+◌, List, [], ◌∷◌, ◌++◌, length, map, set, slice_get, Option, Some}
use Rattle.std.proofs.Common.{None, refl, sym, ◌∙◌, ap, arith}
use Rattle.std.specs.Prelude.{codes, replicate}
use Rattle.std.proofs.lemmas.List.{map-set, length-replicate}
use Rattle.model.specs.declared.colours.Cell.TheVariants.{Free, Taken}
use Rattle.model.specs.declared.colours.Colour.TheVariants.{White}
use Rattle.model.specs.declared.colours.Phase.{Phase}
use Rattle.model.specs.declared.colours.Phase.TheVariants.{Idle, Statics, Frames, Mark, Append}
use Rattle.model.specs.declared.journals.HeapShape.{HeapShape}
use Rattle.model.specs.declared.turns.ClassState.{ClassState}
use Rattle.model.specs.declared.turns.Exception.{Exception}
use Rattle.model.specs.declared.turns.Exception.TheVariants.{Arithmetic, NullPointer, ClassCast, NegativeArraySize}
use Rattle.model.specs.declared.turns.Exception.TheVariants.{ArrayStore, IllegalMonitorState, ArrayIndexOutOfBounds}
use Rattle.model.specs.declared.turns.Exception.TheVariants.{IllegalThreadState, StackOverflow, ExceptionInInitializer}
use Rattle.model.specs.declared.turns.Exception.TheVariants.{NoClassDefFound}
use Rattle.model.specs.declared.turns.Fault.{Fault}
use Rattle.model.specs.declared.values.Value.{Value}
use Rattle.model.specs.ClassListings.{ClassListing}
use Rattle.model.specs.Classes.Builtin.{builtin_classes}
use Rattle.model.specs.Classes.Exceptions.{exception_class}
use Rattle.model.specs.Accounts.{Account}
use Rattle.model.specs.Limits.{ShapeFits}
use Rattle.model.specs.Worlds.{Thread, World, Object, opening_objects, opening_slots, plain_object}
use Rattle.model.specs.Collector.Places.{root_at, word_at}
use Rattle.resolve.specs.Numbers.{name_of}
use Rattle.cells.specs.Objects.{StoredObject, made_object}
use Rattle.collector.specs.Freed.{freed_cell, without}
use Rattle.collector.proofs.Clearing.{collected-is}
use Rattle.join.specs.OnCells.{nobody, held_object}
use Rattle.join.specs.TurnsOnCells.{CellMachine, collected_on, opening_on, step_on}
use Rattle.join.proofs.Opening.{two_cells}
use Rattle.instructions.specs.declared.kinds.Kind.{Kind}
use Rattle.instructions.specs.declared.kinds.Kind.TheVariants.{Instance, Array}
use Rattle.instructions.specs.Heaps.{HeapValue, cleared, collected, exception_kind, looked_at, made, memory_error_kind}
use Rattle.instructions.specs.Heaps.{opening_stored, own_class}
use Rattle.instructions.specs.Shown.{class_name, contents_shown, field_keys, kind_name, keyed, name_or_none}
use Rattle.instructions.specs.Shown.{object_shown, objects_shown}
use Rattle.instructions.proofs.AgreeLemmas.{cells_number}
use Rattle.instructions.proofs.KeyedLemmas.{length-keyed}
use Rattle.model.specs.Objects.{class_of, made_of, words_in}
use Rattle.std.specs.Option.{option_map}
use Rattle.std.proofs.lemmas.Option.{slice_get-map}

-- What changes of a heap are on the world that it shows.

-- ---- one cell

pub shown-set : (program : List ClassListing) (objects : List (Option
    (StoredObject Kind))) (c : ℕ) (o : Option (StoredObject Kind))
    → objects_shown program (set objects c o) ≡ set (objects_shown program objects) (suc c) (object_shown program o)
shown-set program objects c o = ap (λ os. nobody ∷ os) (map-set (object_shown program) objects c o)

pub shown-get : (program : List ClassListing) (objects : List (Option (StoredObject Kind))) (c : ℕ)
    → slice_get (objects_shown program objects) (suc c) ≡ option_map (object_shown program) (slice_get objects c)
shown-get program objects c = slice_get-map (object_shown program) objects c

-- ---- one object

pub words-shown : (program : List ClassListing) (kind : Kind) (words : List Value)
    → words_in (contents_shown program kind words) ≡ length words
words-shown program (Instance class) words = length-keyed (field_keys program class) words
words-shown program (Array type) words = refl

pub class-shown : (program : List ClassListing) (kind : Kind) (words : List Value)
    → class_of (contents_shown program kind words) ≡ kind_name program kind
class-shown program (Instance class) words = refl
class-shown program (Array type) words = refl

-- a new object
pub made-shown : (program : List ClassListing) (kind : Kind) (words : List Value)
    → object_shown program (Some (made kind words)) ≡ made_of (contents_shown program kind words)
made-shown program kind words = refl

-- ---- the machine's own classes

own_name : (program : List ClassListing) (place : ℕ) (name : List ℕ)
    → slice_get (map name_of builtin_classes) place ≡ Some name → class_name program (length program + place) ≡ name
own_name program place name is = ap name_or_none (following program (length program + place) refl ∙ is)
  where
    following : (cs : List ClassListing) (n : ℕ) → n ≡ length cs + place
        → slice_get (map name_of cs ++ map name_of builtin_classes) n ≡ slice_get (map name_of builtin_classes) place
    following [] n e = ap (slice_get (map name_of builtin_classes)) (omega (arith, e))
    following (c ∷ cs) zero e = absurd (omega (arith, e))
    following (c ∷ cs) (suc n) e = following cs n (omega (arith, e))

pub memory_error_name : (program : List ClassListing)
    → kind_name program (memory_error_kind program) ≡ codes "java/lang/OutOfMemoryError"
unfolding builtin_classes
memory_error_name program = own_name program 16 _ refl

pub exception_name : (program : List ClassListing) (e : Exception)
    → kind_name program (exception_kind program e) ≡ exception_class e
unfolding builtin_classes
exception_name program Arithmetic = own_name program 5 _ refl
exception_name program NullPointer = own_name program 6 _ refl
exception_name program ClassCast = own_name program 7 _ refl
exception_name program NegativeArraySize = own_name program 8 _ refl
exception_name program ArrayStore = own_name program 9 _ refl
exception_name program IllegalMonitorState = own_name program 10 _ refl
exception_name program ArrayIndexOutOfBounds = own_name program 12 _ refl
exception_name program IllegalThreadState = own_name program 14 _ refl
exception_name program StackOverflow = own_name program 17 _ refl
exception_name program ExceptionInInitializer = own_name program 19 _ refl
exception_name program NoClassDefFound = own_name program 20 _ refl

-- an object of such a class, as it is made without words
pub own_shown : (program : List ClassListing) (place : ℕ) (name : List ℕ)
    → class_name program (length program + place) ≡ name
    → object_shown program (Some (made_object (own_class program place) [])) ≡ plain_object name
own_shown program place name is = ap plain_object is

-- ---- the opening

nobody_shown : (program : List ClassListing) (objects : List Object) (n : ℕ)
    → map (object_shown program) (replicate n None) ≡ map (held_object (λ b. b) objects) (replicate n Free)
nobody_shown program objects zero = refl
nobody_shown program objects (suc n) = ap (λ os. nobody ∷ os) (nobody_shown program objects n)

-- the two errors in their cells, by what they are shown as
with_errors : (program : List ClassListing) (n : ℕ) (o p : Object)
    → o ≡ plain_object (codes "java/lang/OutOfMemoryError")
    → p ≡ plain_object (codes "java/lang/StackOverflowError")
    → o ∷ p ∷ map (object_shown program) (replicate n None)
    ≡ map (held_object (λ b. b) opening_objects) (Taken 1 White ∷ Taken 2 White ∷ replicate n Free)
with_errors program n o p memory stack =
    rw (memory, stack)
    (ap
    (λ os. plain_object (codes "java/lang/OutOfMemoryError") ∷ plain_object (codes "java/lang/StackOverflowError") ∷ os)
    (nobody_shown program opening_objects n))

pub opening_shown : (program : List ClassListing) (shape : HeapShape)
    → ShapeFits shape.small shape.medium shape.large
    → objects_shown program (opening_stored program shape) ≡ (opening_on program shape).world.objects
opening_shown program shape fits =
    let two = two_cells shape.small shape.medium shape.large fits.0 in
    let total = cells_number shape in
    let long = ap length two.1 in
    let rest = length-replicate two.0 Free in
    let count : shape.small + shape.medium + shape.large ≡ suc (suc two.0) = omega (arith, total, long, rest) in
    let memory = made (memory_error_kind program) [] in
    let stack = made (exception_kind program StackOverflow) [] in
    let memory_is = own_shown program 16 (codes "java/lang/OutOfMemoryError") (memory_error_name program) in
    let stack_is = own_shown program 17 (codes "java/lang/StackOverflowError") (exception_name program StackOverflow) in
    ap (λ n. objects_shown program (set (set (replicate n None) 0 (Some memory)) 1 (Some stack))) count
    ∙ ap (λ os. nobody ∷ os) (with_errors program two.0 _ _ memory_is stack_is)
    ∙ ap (λ cells. nobody ∷ map (held_object (λ b. b) opening_objects) cells) (sym two.1)

-- ---- the collector's turn

module _
    (program : List ClassListing) (threads : List Thread) (slots : List Value) (states : List ClassState)
    (output : List ℕ) (fault : Option (Fault × ℕ)) (rows : ℕ)
  where
    -- the machine on cells of which a heap is part
    abbrev pub machine_shown : HeapValue → CellMachine
    machine_shown h = record {
      world = record {
        threads = threads;
        statics = record { fields = keyed (opening_slots program) slots; states = states };
        output = output;
        objects = objects_shown program h.objects;
        fault = fault;
        rows = rows;
      };
      account = h.account;
      births = h.births;
    }

    stepped_alike : (h : HeapValue) (phase : Phase)
        → step_on h.shape (machine_shown h).world h.account phase
        ≡ step_on h.shape (looked_at program threads slots h) h.account phase
    unfolding root_at word_at
    stepped_alike h Idle = refl
    stepped_alike h (Statics s) = refl
    stepped_alike h (Frames t d j) = refl
    stepped_alike h (Mark q) = refl
    stepped_alike h (Append p) = refl

    cleared_shown : (h : HeapValue) (freed : Option ℕ)
        → without (machine_shown h).world freed ≡ (machine_shown (record h { objects = cleared h.objects freed })).world
    cleared_shown h None = refl
    cleared_shown h (Some c) =
        ap (λ (os : List Object). record (machine_shown h).world { objects = os })
        (sym (shown-set program h.objects c None))

    pub collected_shown : (h : HeapValue)
        → collected_on h.shape (machine_shown h) ≡ machine_shown (collected program threads slots h)
    collected_shown h =
        let freed = freed_cell h.account h.account.phase in
        let stepped = step_on h.shape (machine_shown h).world h.account h.account.phase in
        let left = record h { objects = cleared h.objects freed } in
        sym (collected-is h.shape (machine_shown h))
        ∙ ap (λ (w : World). let x : CellMachine = record { world = w; account = stepped; births = h.births } in x)
        (cleared_shown h freed)
        ∙ ap (λ (a : Account). machine_shown (record left { account = a })) (stepped_alike h h.account.phase)
