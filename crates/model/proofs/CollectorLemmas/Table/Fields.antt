use Rattle.std.proofs.Common.{◌≡◌, ℕ, List, [], ◌∷◌, map, drop, Option, Some, None, Result, Ok, Err, refl}
use Rattle.model.specs.declared.names.Member.{Member}
use Rattle.model.specs.declared.instructions.Access.{Access}
use Rattle.model.specs.declared.instructions.Access.TheVariants.{Get, Put}
use Rattle.model.specs.declared.turns.Fault.{Fault}
use Rattle.model.specs.declared.values.Value.{Value}
use Rattle.model.specs.Stores.{storage_of, descriptor_kind, kept}
use Rattle.model.specs.Locals.{value_on}
use Rattle.model.specs.Frames.{both, ref_on, running, replaced_if_room}
use Rattle.model.specs.Completions.{Site, frames_in}
use Rattle.model.specs.Words.{contents_at, word_of, with_word}
use Rattle.model.specs.Table.Fields.{field_place, word_got, field_got, word_put, field_put_in, field_put}
use Rattle.model.specs.Table.Fields.{field_accessed}
use Rattle.model.specs.Collector.Places.{ref_of, Reach}
use Rattle.model.specs.Collector.Moves.{CompletionMoves}
use Rattle.model.proofs.CollectorLemmas.Moving.{AllMay}
use Rattle.model.proofs.CollectorLemmas.Known.{stack_known}
use Rattle.model.proofs.CollectorLemmas.Stepping.{if_room_lawful, completes_moves}
use Rattle.model.proofs.CollectorLemmas.Words.{value_on-known, ref_on-known, both-first, word_may, put_may, word_stored}
use Rattle.model.proofs.CollectorLemmas.Words.{puts_moves}

word_got_moves : (s : Site) → running (frames_in s) ≡ Some s.frame → (birth : ℕ) → Reach s.world birth
    → (place : Option ℕ) → CompletionMoves s.world (word_got s birth place)
word_got_moves s e birth r None = tt
word_got_moves s e birth r (Some place) =
    completes_moves s e (replaced_if_room s.next s.frame 1 (word_of (contents_at s.world birth) place ∷ []))
    (if_room_lawful s.world s.next s.frame 1 (word_of (contents_at s.world birth) place ∷ [])
    (word_may s.world birth place r))

got_moves : (s : Site) → running (frames_in s) ≡ Some s.frame → (member : Member) (r : Result (Option ℕ) Fault)
    → ref_on s.frame.stack ≡ r → CompletionMoves s.world (field_got s member r)
got_moves s e member (Err fault) k = tt
got_moves s e member (Ok None) k = tt
got_moves s e member (Ok (Some birth)) k =
    word_got_moves s e birth (ref_on-known _ s.frame.stack birth (stack_known s.world s.thread _ s.frame e) k)
    (field_place s member birth)

word_put_moves : (s : Site) → running (frames_in s) ≡ Some s.frame → (descriptor : List ℕ) (v : Value)
    → AllMay (Reach s.world) (map ref_of (v ∷ [])) → (birth : ℕ) (place : Option ℕ)
    → CompletionMoves s.world (word_put s descriptor v birth place)
word_put_moves s e descriptor v may birth None = tt
word_put_moves s e descriptor v may birth (Some place) =
    puts_moves s e (with_word s.world birth place (kept (storage_of descriptor) v)) 2 v may
    (word_stored _ s.world birth place (kept (storage_of descriptor) v) (put_may (storage_of descriptor) v))

put_in_moves : (s : Site) → running (frames_in s) ≡ Some s.frame → (member : Member) (v : Value)
    → AllMay (Reach s.world) (map ref_of (v ∷ [])) → (object : Option ℕ)
    → CompletionMoves s.world (field_put_in s member v object)
put_in_moves s e member v may None = tt
put_in_moves s e member v may (Some birth) = word_put_moves s e member.descriptor v may birth
    (field_place s member birth)

put_moves : (s : Site) → running (frames_in s) ≡ Some s.frame → (member : Member) (r : Result (Value × Option ℕ) Fault)
    → both (value_on (descriptor_kind member.descriptor) s.frame.stack) (ref_on (drop 1 s.frame.stack)) ≡ r
    → CompletionMoves s.world (field_put s member r)
put_moves s e member (Err fault) k = tt
put_moves s e member (Ok operands) k =
    let kind = descriptor_kind member.descriptor in
    put_in_moves s e member operands.0
    (value_on-known _ kind s.frame.stack operands.0 (stack_known s.world s.thread _ s.frame e)
    (both-first (value_on kind s.frame.stack) (ref_on (drop 1 s.frame.stack)) operands k))
    operands.1

pub field_moves : (s : Site) → running (frames_in s) ≡ Some s.frame → (access : Access) (member : Member)
    → CompletionMoves s.world (field_accessed s access member)
field_moves s e Get member = got_moves s e member (ref_on s.frame.stack) refl
field_moves s e Put member = put_moves s e member _ refl
