use Rattle.std.specs.Prelude.{Some, None, Result, Ok, Err}
use Rattle.model.specs.declared.values.Value.{Value}
use Rattle.model.specs.declared.values.Value.TheVariants.{Int as IntValue, Long as LongValue, Ref as RefValue}
use Rattle.model.specs.declared.values.Entry.{Entry}
use Rattle.model.specs.declared.values.Entry.TheVariants.{Unset as UnsetEntry, Holds, UpperHalf}
use Rattle.model.specs.declared.turns.Fault.{Fault}
use Rattle.model.specs.declared.turns.Fault.TheVariants.{WrongKind, WrongLocal}
use Rattle.values.specs.declared.slots.Slot.{Slot}
use Rattle.values.specs.declared.slots.Slot.TheVariants.{Unset, Int, Long, Null, Ref, Upper}

-- the entry that a slot stands for
abbrev pub entry_of : Slot → Entry
entry_of Unset = UnsetEntry
entry_of (Int z) = Holds (IntValue z)
entry_of (Long z) = Holds (LongValue z)
entry_of Null = Holds (RefValue None)
entry_of (Ref number) = Holds (RefValue (Some number))
entry_of Upper = UpperHalf

-- the value that an entry holds: null where it holds none, of which nobody asks it
abbrev pub value_in : Entry → Value
value_in UnsetEntry = RefValue None
value_in (Holds v) = v
value_in UpperHalf = RefValue None

-- the value that stands in a slot
abbrev pub value_of : Slot → Value
value_of slot = value_in (entry_of slot)

-- the same of a slot that was looked for
abbrev pub value_reported : Result Slot Fault → Result Value Fault
value_reported (Ok slot) = Ok (value_of slot)
value_reported (Err e) = Err e

-- why a local's entry isn't of the kind that is wanted
abbrev pub wrong_entry : Entry → Fault
wrong_entry UnsetEntry = WrongKind
wrong_entry (Holds v) = WrongKind
wrong_entry UpperHalf = WrongLocal
