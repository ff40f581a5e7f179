use Rattle.std.proofs.Common.{◌≡◌, ℕ, List, [], ◌∷◌, Option, Some, None, Result, Ok, Err, refl}
use Rattle.model.specs.declared.names.Member.{Member}
use Rattle.model.specs.declared.instructions.Access.{Access}
use Rattle.model.specs.declared.instructions.Access.TheVariants.{Get, Put}
use Rattle.model.specs.declared.turns.Fault.{Fault}
use Rattle.model.specs.declared.values.Value.{Value}
use Rattle.model.specs.Stores.{storage_of, descriptor_kind, kept}
use Rattle.model.specs.Locals.{value_on}
use Rattle.model.specs.Frames.{running, replaced_if_room}
use Rattle.model.specs.Completions.{Site, frames_in}
use Rattle.model.specs.Words.{slot_at, with_slot}
use Rattle.model.specs.Table.Statics.{slot_of, static_got, static_put, static_accessed}
use Rattle.model.specs.Collector.Moves.{CompletionMoves}
use Rattle.model.proofs.CollectorLemmas.Known.{stack_known}
use Rattle.model.proofs.CollectorLemmas.Stepping.{if_room_lawful, completes_moves}
use Rattle.model.proofs.CollectorLemmas.Words.{value_on-known, slot_may, put_may, slot_stored, puts_moves}

got_moves : (s : Site) → running (frames_in s) ≡ Some s.frame → (slot : Option ℕ)
    → CompletionMoves s.world (static_got s slot)
got_moves s e None = tt
got_moves s e (Some slot) =
    completes_moves s e (replaced_if_room s.next s.frame 0 (slot_at s.world slot ∷ []))
    (if_room_lawful s.world s.next s.frame 0 (slot_at s.world slot ∷ []) (slot_may s.world slot))

put_moves : (s : Site) → running (frames_in s) ≡ Some s.frame
    → (descriptor : List ℕ) (r : Result Value Fault) (slot : Option ℕ)
    → value_on (descriptor_kind descriptor) s.frame.stack ≡ r → CompletionMoves s.world (static_put s descriptor r slot)
put_moves s e descriptor (Err fault) slot k = tt
put_moves s e descriptor (Ok v) None k = tt
put_moves s e descriptor (Ok v) (Some slot) k =
    puts_moves s e (with_slot s.world slot (kept (storage_of descriptor) v)) 1 v
    (value_on-known _ (descriptor_kind descriptor) s.frame.stack v (stack_known s.world s.thread _ s.frame e) k)
    (slot_stored _ s.world slot (kept (storage_of descriptor) v) (put_may (storage_of descriptor) v))

pub static_moves : (s : Site) → running (frames_in s) ≡ Some s.frame → (access : Access) (member : Member)
    → CompletionMoves s.world (static_accessed s access member)
static_moves s e Get member = got_moves s e (slot_of s member)
static_moves s e Put member =
    put_moves s e member.descriptor (value_on (descriptor_kind member.descriptor) s.frame.stack) (slot_of s member) refl
