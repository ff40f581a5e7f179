use Rattle.std.specs.Prelude.{ℕ, List, [], ◌∷◌, drop, Bool, true, false, Option, Some, None, Result, Ok, Err}
use Rattle.std.specs.Option.{option_and_then}
use Rattle.model.specs.declared.listings.Field.{Field}
use Rattle.model.specs.declared.names.Member.{Member}
use Rattle.model.specs.declared.instructions.Access.{Access}
use Rattle.model.specs.declared.instructions.Access.TheVariants.{Get, Put}
use Rattle.model.specs.declared.turns.Exception.TheVariants.{NullPointer}
use Rattle.model.specs.declared.turns.Fault.{Fault}
use Rattle.model.specs.declared.turns.Fault.TheVariants.{WrongClass}
use Rattle.model.specs.declared.values.Value.{Value}
use Rattle.model.specs.Stores.{storage_of, descriptor_kind, kept}
use Rattle.model.specs.Classes.Resolution.{resolved_field}
use Rattle.model.specs.Classes.Search.{Declared}
use Rattle.model.specs.Classes.Types.{is_subtype}
use Rattle.model.specs.Locals.{value_on}
use Rattle.model.specs.Frames.{both, ref_on, replaced_if_room}
use Rattle.model.specs.Worlds.{FieldValue, Contents}
use Rattle.model.specs.Worlds.Contents.{Instance, Array}
use Rattle.model.specs.Objects.{class_at}
use Rattle.model.specs.Completions.{Completion, Site, completes, raises}
use Rattle.model.specs.Completions.Completion.{Faults}
use Rattle.model.specs.Words.{field_index, contents_at, word_of, with_word, puts}

-- ---- which word of an object a reference names

abbrev pub fields_in : Contents → List FieldValue
fields_in (Instance class fields) = fields
fields_in (Array element values) = []

abbrev pub word_place : Site → Member → ℕ → Option ℕ
word_place s member birth =
    option_and_then (λ (field : Declared Field). field_index (fields_in (contents_at s.world birth)) field)
    (resolved_field s.program member)

abbrev pub if_subclass : Bool → Option ℕ → Option ℕ
if_subclass true place = place
if_subclass false place = None

-- none where the object is of no subclass of the class named
abbrev pub field_place : Site → Member → ℕ → Option ℕ
field_place s member birth = if_subclass (is_subtype s.program (class_at s.world birth) member.class)
    (word_place s member birth)

-- ---- getfield

abbrev pub word_got : Site → ℕ → Option ℕ → Completion
word_got s birth None = Faults WrongClass
word_got s birth (Some place) =
    completes s (replaced_if_room s.next s.frame 1 (word_of (contents_at s.world birth) place ∷ []))

abbrev pub field_got : Site → Member → Result (Option ℕ) Fault → Completion
field_got s member (Err fault) = Faults fault
field_got s member (Ok None) = raises NullPointer
field_got s member (Ok (Some birth)) = word_got s birth (field_place s member birth)

-- ---- putfield: the value lies above the object

abbrev pub word_put : Site → List ℕ → Value → ℕ → Option ℕ → Completion
word_put s descriptor v birth None = Faults WrongClass
word_put s descriptor v birth (Some place) =
    puts (with_word s.world birth place (kept (storage_of descriptor) v)) s 2 v

abbrev pub field_put_in : Site → Member → Value → Option ℕ → Completion
field_put_in s member v None = raises NullPointer
field_put_in s member v (Some birth) = word_put s member.descriptor v birth (field_place s member birth)

abbrev pub field_put : Site → Member → Result (Value × Option ℕ) Fault → Completion
field_put s member (Err fault) = Faults fault
field_put s member (Ok operands) = field_put_in s member operands.0 operands.1

-- getfield and putfield (JVMS 6.5)
abbrev pub field_accessed : Site → Access → Member → Completion
field_accessed s Get member = field_got s member (ref_on s.frame.stack)
field_accessed s Put member =
    field_put s member (both (value_on (descriptor_kind member.descriptor) s.frame.stack)
    (ref_on (drop 1 s.frame.stack)))
