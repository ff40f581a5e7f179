use Rattle.std.specs.Prelude.{◌≡◌, ℕ, zero, suc, ◌+◌, ◌≤◌, List, [], ◌∷◌, length, take, drop, map, slice_index_or}
use Rattle.model.specs.declared.values.Value.{Value}
use Rattle.model.specs.declared.values.Entry.{Entry}
use Rattle.model.specs.declared.values.Entry.TheVariants.{Unset}
use Rattle.model.specs.Values.{units_of_all}
use Rattle.values.specs.Slots.{value_in}
use Rattle.model.specs.Frames.{Frame}
use Rattle.frames.specs.declared.activations.Activation.{Activation}

-- the stack of so many values from this unit on, its top first: each value stands in one unit
abbrev pub stack_of : List Entry → ℕ → ℕ → List Value
stack_of units base zero = []
stack_of units base (suc n) = value_in (slice_index_or units (base + n) Unset) ∷ stack_of units base n

-- the values in so many units, in the order of the units
abbrev pub values_between : List Entry → ℕ → ℕ → List Value
values_between units from count = map value_in (take count (drop from units))

-- the frame that an activation stands for
abbrev pub frame_of : List Entry → Activation → Frame
frame_of units a = record {
  method = a.method;
  pc = a.pc;
  locals = take a.locals (drop a.base units);
  stack = stack_of units (a.base + a.locals) a.values;
  room = a.room;
  monitor = a.monitor;
  mark = a.mark;
}

-- an activation begins at this unit, and its stack is within its room
pub record Stands (units : List Entry) (base : ℕ) (a : Activation) : Type 0 where
  pub begins : a.base ≡ base
  pub taken_is : a.taken ≡ units_of_all (stack_of units (a.base + a.locals) a.values)
  pub fits : a.taken ≤ a.room

-- activations stand one after another from one unit to another
abbrev pub AreLaidOut : List Entry → ℕ → List Activation → ℕ → Type 0
AreLaidOut units base [] end = base ≡ end
AreLaidOut units base (a ∷ activations) end = Stands units base a
    × AreLaidOut units (base + a.locals + a.room) activations end

-- what is true of the parts of a thread's frames: so many units are used, and as many at least were reached, of 4,096
pub record IsSound (units : List Entry) (activations : List Activation) (used : ℕ) : Type 0 where
  pub units_are : length units ≤ 4096
  pub count_is : length activations ≤ 256
  pub used_is : used ≤ length units
  pub laid_out : AreLaidOut units 0 activations used
