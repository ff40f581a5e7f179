use Rattle.std.specs.Prelude.{ℕ, ℤ, pos, negsuc, ◌==◌, List, [], ◌∷◌, ◌++◌, length, drop, replicate, nat_lt, codes}
use Rattle.std.specs.Prelude.{Bool, true, false, Option, Some, None, Result, Ok, Err, if◌then◌else◌}
use Rattle.std.specs.Str.{bytes_eq}
use Rattle.model.specs.declared.instructions.ArrayOperation.{ArrayOperation}
use Rattle.model.specs.declared.instructions.ArrayOperation.TheVariants.{New, NewOf, Length, Load, Store}
use Rattle.model.specs.declared.instructions.ElementKind.{ElementKind}
use Rattle.model.specs.declared.instructions.ElementKind.TheVariants.{Int as IntElement, Long as LongElement}
use Rattle.model.specs.declared.instructions.ElementKind.TheVariants.{Ref as RefElement, Byte as ByteElement}
use Rattle.model.specs.declared.instructions.ElementKind.TheVariants.{Char as CharElement, Short as ShortElement}
use Rattle.model.specs.declared.instructions.Primitive.{Primitive}
use Rattle.model.specs.declared.instructions.Primitive.TheVariants.{Char as Chars, Byte as Bytes, Short as Shorts}
use Rattle.model.specs.declared.instructions.Primitive.TheVariants.{Int as AllInts, Long as AllLongs}
use Rattle.model.specs.declared.turns.Abrupt.{Abrupt}
use Rattle.model.specs.declared.turns.Abrupt.TheVariants.{Fault as Faulted, Throw}
use Rattle.model.specs.declared.turns.Exception.TheVariants.{NullPointer, NegativeArraySize, ArrayStore}
use Rattle.model.specs.declared.turns.Exception.TheVariants.{ArrayIndexOutOfBounds}
use Rattle.model.specs.declared.turns.Fault.{Fault}
use Rattle.model.specs.declared.turns.Fault.TheVariants.{WrongClass}
use Rattle.model.specs.declared.values.Value.{Value}
use Rattle.model.specs.declared.values.Value.TheVariants.{Int, Long, Ref}
use Rattle.model.specs.ClassListings.{ClassListing}
use Rattle.model.specs.Stores.{Storage, storage_of, storage_kind, default_in, kept}
use Rattle.model.specs.Classes.Types.{Element, described, is_subtype}
use Rattle.model.specs.Classes.Types.Element.{Number, Reference}
use Rattle.model.specs.Locals.{value_on}
use Rattle.model.specs.Frames.{both, int_on, ref_on, replaced}
use Rattle.model.specs.Worlds.{World, Contents}
use Rattle.model.specs.Worlds.Contents.{Instance, Array}
use Rattle.model.specs.Objects.{class_at}
use Rattle.model.specs.Completions.{Completion, Site, moves_in, completes_abruptly, raises}
use Rattle.model.specs.Completions.Completion.{Creates, Faults}
use Rattle.model.specs.Words.{contents_at, word_of, with_word, puts}

-- ---- newarray and anewarray: a negative size is reported before a cell is asked for

abbrev pub letter_of : Primitive → List ℕ
letter_of Chars = codes "C"
letter_of Bytes = codes "B"
letter_of Shorts = codes "S"
letter_of AllInts = codes "I"
letter_of AllLongs = codes "J"

-- the descriptor of what anewarray names: an array's is its name
abbrev pub descriptor_of : List ℕ → List ℕ
descriptor_of [] = []
descriptor_of (b ∷ bs) = if b == 91 then b ∷ bs else codes "L" ++ b ∷ bs ++ codes ";"

abbrev pub sized : Site → List ℕ → ℤ → Completion
sized s element (pos n) = Creates s.next 1 (Array element (replicate n (default_in (storage_of element))))
sized s element (negsuc n) = raises NegativeArraySize

abbrev pub array_made : Site → List ℕ → Result ℤ Fault → Completion
array_made s element (Err fault) = Faults fault
array_made s element (Ok z) = sized s element z

-- ---- arraylength

abbrev pub length_of : Site → Contents → Completion
length_of s (Instance class fields) = Faults WrongClass
length_of s (Array element values) = moves_in s.world s (replaced s.next s.frame 1 (Int (pos (length values)) ∷ []))

abbrev pub measured : Site → Result (Option ℕ) Fault → Completion
measured s (Err fault) = Faults fault
measured s (Ok None) = raises NullPointer
measured s (Ok (Some birth)) = length_of s (contents_at s.world birth)

-- ---- where an index leads in an array of the opcode's kind

-- the descriptor of an opcode's elements; `L` stands for those of all classes and arrays
abbrev pub letter_for : ElementKind → List ℕ
letter_for IntElement = codes "I"
letter_for LongElement = codes "J"
letter_for RefElement = codes "L"
letter_for ByteElement = codes "B"
letter_for CharElement = codes "C"
letter_for ShortElement = codes "S"

abbrev pub has_elements : List ℕ → Option Element → Bool
has_elements letter None = false
has_elements letter (Some (Number n)) = bytes_eq (n ∷ []) letter
has_elements letter (Some (Reference name)) = bytes_eq letter (codes "L")

abbrev pub is_array_of : ElementKind → Contents → Bool
is_array_of kind (Instance class fields) = false
is_array_of kind (Array element values) = has_elements (letter_for kind) (described element)

abbrev pub values_in : Contents → List Value
values_in (Instance class fields) = []
values_in (Array element values) = values

abbrev pub if_below : ℕ → Bool → Option ℕ
if_below n true = Some n
if_below n false = None

-- none where the index is outside
abbrev pub index_in : ℤ → Contents → Option ℕ
index_in (pos n) contents = if_below n (nat_lt n (length (values_in contents)))
index_in (negsuc n) contents = None

abbrev pub indexed : ℕ → Option ℕ → Result (ℕ × ℕ) Abrupt
indexed birth None = Err (Throw ArrayIndexOutOfBounds)
indexed birth (Some place) = Ok (birth, place)

abbrev pub if_array : Bool → Result (ℕ × ℕ) Abrupt → Result (ℕ × ℕ) Abrupt
if_array true place = place
if_array false place = Err (Faulted WrongClass)

-- an array's birth, and a place in it
abbrev pub element_place : World → ElementKind → ℤ → Option ℕ → Result (ℕ × ℕ) Abrupt
element_place w kind z None = Err (Throw NullPointer)
element_place w kind z (Some birth) =
    if_array (is_array_of kind (contents_at w birth)) (indexed birth (index_in z (contents_at w birth)))

-- ---- loads: the index lies above the array

abbrev pub element_got : Site → Result (ℕ × ℕ) Abrupt → Completion
element_got s (Err abrupt) = completes_abruptly abrupt
element_got s (Ok place) = moves_in s.world s (replaced s.next s.frame 2 (word_of (contents_at s.world place.0) place.1
    ∷ []))

abbrev pub loaded : Site → ElementKind → Result (ℤ × Option ℕ) Fault → Completion
loaded s kind (Err fault) = Faults fault
loaded s kind (Ok operands) = element_got s (element_place s.world kind operands.0 operands.1)

-- ---- stores: the value lies above the index

abbrev pub storage_in : ElementKind → Storage
storage_in kind = storage_of (letter_for kind)

abbrev pub is_element_of : List ClassListing → List ℕ → Option Element → Bool
is_element_of program class None = true
is_element_of program class (Some (Number letter)) = true
is_element_of program class (Some (Reference name)) = is_subtype program class name

abbrev pub element_in : Contents → Option Element
element_in (Instance class fields) = None
element_in (Array element values) = described element

-- null, and what is no reference, may go into every array
abbrev pub may_hold : Site → Contents → Value → Bool
may_hold s contents (Int z) = true
may_hold s contents (Long z) = true
may_hold s contents (Ref None) = true
may_hold s contents (Ref (Some birth)) = is_element_of s.program (class_at s.world birth) (element_in contents)

abbrev pub put_if : Site → Storage → Value → ℕ × ℕ → Bool → Completion
put_if s storage v place true = puts (with_word s.world place.0 place.1 (kept storage v)) s 3 v
put_if s storage v place false = raises ArrayStore

abbrev pub element_put : Site → Storage → Value → Result (ℕ × ℕ) Abrupt → Completion
element_put s storage v (Err abrupt) = completes_abruptly abrupt
element_put s storage v (Ok place) = put_if s storage v place (may_hold s (contents_at s.world place.0) v)

abbrev pub array_stored : Site → ElementKind → Result (Value × (ℤ × Option ℕ)) Fault → Completion
array_stored s kind (Err fault) = Faults fault
array_stored s kind (Ok operands) =
    element_put s (storage_in kind) operands.0 (element_place s.world kind operands.1.0 operands.1.1)

-- newarray, anewarray, arraylength, and loads and stores of elements (JVMS 6.5)
abbrev pub array_operated : Site → ArrayOperation (List ℕ) → Completion
array_operated s (New primitive) = array_made s (letter_of primitive) (int_on s.frame.stack)
array_operated s (NewOf name) = array_made s (descriptor_of name) (int_on s.frame.stack)
array_operated s Length = measured s (ref_on s.frame.stack)
array_operated s (Load kind) = loaded s kind (both (int_on s.frame.stack) (ref_on (drop 1 s.frame.stack)))
array_operated s (Store kind) =
    array_stored s kind
    (both (value_on (storage_kind (storage_in kind)) s.frame.stack)
    (both (int_on (drop 1 s.frame.stack)) (ref_on (drop 2 s.frame.stack))))
