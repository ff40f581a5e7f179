use Rattle.std.specs.Prelude.{◌≡◌, ◌≤◌, ◌-◌, ◌++◌, replicate, vec_capacity, vec_len}
use Rattle.values.specs.declared.slots.Slot.TheVariants.{Unset}
use Rattle.frames.proofs.units.grow.Given as goal

abbrev pub invariant-loop-place : goal.invariant-loop-place
invariant-loop-place l = record {
  items : l.slots.items ≡ l.initial.slots.items ++ replicate (l._place - vec_len l.initial.slots) Unset;
  len : vec_len l.slots ≡ l._place;
  more : vec_len l.initial.slots ≤ l._place;
  capacity : vec_capacity l.initial.slots ≤ vec_capacity l.slots;
}
