use Rattle.std.proofs.Common.{◌≡◌, ℕ, ℤ, ◌+ℤ◌, [], ◌∷◌, Some, Result, Ok, Err, refl}
use Rattle.std.specs.Int.{w32, int_wrap}
use Rattle.model.specs.declared.values.Kind.TheVariants.{Int as IntKind}
use Rattle.model.specs.declared.values.Value.{Value}
use Rattle.model.specs.declared.values.Value.TheVariants.{Int}
use Rattle.model.specs.declared.turns.Fault.{Fault}
use Rattle.model.specs.declared.instructions.LocalAccess.{LocalAccess}
use Rattle.model.specs.declared.instructions.LocalAccess.TheVariants.{Load, Store, Increment as Incremented}
use Rattle.model.specs.Frames.{Frame, running, as_int}
use Rattle.model.specs.Worlds.{World, frames_at}
use Rattle.model.specs.Locals.{local_at}
use Rattle.model.specs.Table.Locals.{local_index, increment_index, increment_amount, loaded_on, incremented_on, local}
use Rattle.model.specs.Collector.Places.{ref_of, Reach}
use Rattle.model.specs.Collector.Moves.{ResultMoves}
use Rattle.model.proofs.CollectorLemmas.Stepping.{if_room_lawful}
use Rattle.model.proofs.CollectorLemmas.Locals.{stored_lawful, stored_at_lawful, local_at_known}

-- what was found was reachable
loaded_lawful : (w : World) (next : ℕ) (f : Frame) (r : Result Value Fault)
    → ((v : Value) → r ≡ Ok v → (b : ℕ) → ref_of v ≡ Some b → Reach w b) → ResultMoves w f (loaded_on next f r)
loaded_lawful w next f (Err e) h = tt
loaded_lawful w next f (Ok v) h = if_room_lawful w next f 0 (v ∷ []) (h v refl, tt)

-- an int is no birth
incremented_lawful : (w : World) (next : ℕ) (f : Frame) (index : ℕ) (amount : ℤ) (r : Result ℤ Fault)
    → ResultMoves w f (incremented_on next f index amount r)
incremented_lawful w next f index amount (Err e) = tt
incremented_lawful w next f index amount (Ok z) = stored_lawful w next f 0
    index (Int (int_wrap w32 (z +ℤ amount))) (λ b e. absurd (cc))

pub local_lawful : (w : World) (t next : ℕ) (access : LocalAccess) (f : Frame) → running (frames_at w t) ≡ Some f
    → ResultMoves w f (local next access f)
local_lawful w t next (Load kind place) f e =
    loaded_lawful w next f (local_at kind f.locals (local_index place))
    (λ v h. local_at_known w t f kind (local_index place) v e h)
local_lawful w t next (Store kind place) f e = stored_at_lawful w t next kind (local_index place) f e
local_lawful w t next (Incremented i) f e =
    incremented_lawful w next f (increment_index i) (increment_amount i)
    (as_int (local_at IntKind f.locals (increment_index i)))
