use Rattle.std.specs.Prelude.{ℕ, List, [], ◌∷◌, Option, Some, None, Result, Ok, Err}
use Rattle.std.specs.Option.{option_and_then}
use Rattle.model.specs.declared.listings.Field.{Field}
use Rattle.model.specs.declared.names.Member.{Member}
use Rattle.model.specs.declared.instructions.Access.{Access}
use Rattle.model.specs.declared.instructions.Access.TheVariants.{Get, Put}
use Rattle.model.specs.declared.turns.Fault.{Fault}
use Rattle.model.specs.declared.turns.Fault.TheVariants.{WrongClass}
use Rattle.model.specs.declared.values.Value.{Value}
use Rattle.model.specs.Stores.{storage_of, descriptor_kind, kept}
use Rattle.model.specs.Classes.Resolution.{resolved_field}
use Rattle.model.specs.Classes.Search.{Declared}
use Rattle.model.specs.Locals.{value_on}
use Rattle.model.specs.Frames.{replaced_if_room}
use Rattle.model.specs.Completions.{Completion, Site, completes}
use Rattle.model.specs.Completions.Completion.{Faults}
use Rattle.model.specs.Words.{field_index, slot_at, with_slot, puts}

-- the slot of the field to which a reference is resolved
abbrev pub slot_of : Site → Member → Option ℕ
slot_of s member = option_and_then (λ (field : Declared Field). field_index s.world.statics.fields field)
    (resolved_field s.program member)

-- no reference of a loaded program is without a slot
abbrev pub static_got : Site → Option ℕ → Completion
static_got s None = Faults WrongClass
static_got s (Some slot) = completes s (replaced_if_room s.next s.frame 0 (slot_at s.world slot ∷ []))

abbrev pub static_put : Site → List ℕ → Result Value Fault → Option ℕ → Completion
static_put s descriptor (Err fault) slot = Faults fault
static_put s descriptor (Ok v) None = Faults WrongClass
static_put s descriptor (Ok v) (Some slot) = puts (with_slot s.world slot (kept (storage_of descriptor) v)) s 1 v

-- getstatic and putstatic (JVMS 6.5)
abbrev pub static_accessed : Site → Access → Member → Completion
static_accessed s Get member = static_got s (slot_of s member)
static_accessed s Put member =
    static_put s member.descriptor (value_on (descriptor_kind member.descriptor) s.frame.stack) (slot_of s member)
