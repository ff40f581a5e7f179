-- What the cells show of a world, described by another world with which it is compared.
use Rattle.std.specs.Prelude.{◌≡◌, ℕ, List, slice_get, Option, Some, None}
use Rattle.std.specs.Option.{option_map}
use Rattle.model.specs.declared.colours.Cell.{Cell}
use Rattle.model.specs.declared.colours.Cell.TheVariants.{Free, Taken}
use Rattle.model.specs.Collector.Places.{Reach}
use Rattle.model.specs.Machines.{Machine}
use Rattle.model.specs.Objects.{object_at}
use Rattle.model.specs.Observers.{reached_object}
use Rattle.model.specs.Shows.{Held}
use Rattle.model.specs.Worlds.{World, next_birth}
use Rattle.instructions.specs.HeldOnCells.{held_of}

-- what a cell would hold of a birth
abbrev pub held_at : World → ℕ → Option Held
held_at w b = option_map (held_of b) (object_at w b)

-- what is the same in two worlds that the same cells show; of objects no more than what a path leads to
pub record Alike (v w : World) : Type 0 where
  pub threads : v.threads ≡ w.threads
  pub slots : v.statics.fields ≡ w.statics.fields
  pub states : v.statics.states ≡ w.statics.states
  pub output : v.output ≡ w.output
  pub fault : v.fault ≡ w.fault
  pub rows : v.rows ≡ w.rows
  pub births : next_birth v ≡ next_birth w
  pub objects : (b : ℕ) → Reach v b → held_at v b ≡ held_at w b

-- what a cell holds to whose birth a path leads
abbrev pub shown_in : Machine → Cell → Option Held
shown_in m Free = None
shown_in m (Taken b colour) = option_map (held_of b) (reached_object m.world b)

-- of what cells hold, each object is the other world's object of its birth
abbrev pub AreHeld : World → List (Option Held) → Type 0
AreHeld w helds = (k : ℕ) (held : Held) → slice_get helds k ≡ Some (Some held) → held_at w held.birth ≡ Some held

-- what is no thread, static field or object
abbrev pub SameBeside : World → World → Type 0
SameBeside v w =
    (v.statics.states ≡ w.statics.states) × (v.output ≡ w.output) × (v.fault ≡ w.fault) × (v.rows ≡ w.rows)
    × (next_birth v ≡ next_birth w)
