use Rattle.std.proofs.Common.{◌≡◌, ℕ, ℤ, pos, negsuc, Bool, true, false, List, [], ◌∷◌, length, map, drop, Option, Some}
use Rattle.std.proofs.Common.{None, Result, Ok, Err, refl}
use Rattle.model.specs.declared.instructions.ArrayOperation.{ArrayOperation}
use Rattle.model.specs.declared.instructions.ArrayOperation.TheVariants.{New, NewOf, Length, Load, Store}
use Rattle.model.specs.declared.instructions.ElementKind.{ElementKind}
use Rattle.model.specs.declared.turns.Abrupt.{Abrupt}
use Rattle.model.specs.declared.turns.Fault.{Fault}
use Rattle.model.specs.declared.values.Value.{Value}
use Rattle.model.specs.declared.values.Value.TheVariants.{Int}
use Rattle.model.specs.Stores.{Storage, storage_of, storage_kind, kept}
use Rattle.model.specs.Locals.{value_on}
use Rattle.model.specs.Frames.{both, int_on, ref_on, running, replaced}
use Rattle.model.specs.Worlds.{World, Contents}
use Rattle.model.specs.Worlds.Contents.{Instance, Array}
use Rattle.model.specs.Completions.{Site, frames_in}
use Rattle.model.specs.Words.{contents_at, word_of, with_word}
use Rattle.model.specs.Table.Arrays.{letter_of, descriptor_of, sized, array_made, length_of, measured, is_array_of}
use Rattle.model.specs.Table.Arrays.{index_in, indexed, if_array, element_place, element_got, loaded, storage_in}
use Rattle.model.specs.Table.Arrays.{may_hold, put_if, element_put, array_stored, array_operated}
use Rattle.model.specs.Collector.Places.{ref_of, Reach}
use Rattle.model.specs.Collector.Moves.{CompletionMoves}
use Rattle.model.proofs.CollectorLemmas.Moving.{AllMay}
use Rattle.model.proofs.CollectorLemmas.Known.{stack_known}
use Rattle.model.proofs.CollectorLemmas.Calls.{below_known}
use Rattle.model.proofs.CollectorLemmas.Stepping.{replaced_lawful, site_moves, abrupt_moves}
use Rattle.model.proofs.CollectorLemmas.Words.{value_on-known, ref_on-known, both-first, both-second, word_may, put_may}
use Rattle.model.proofs.CollectorLemmas.Words.{word_stored, puts_moves, defaults_nowhere}

-- ---- newarray, anewarray and arraylength

sized_moves : (s : Site) (element : List ℕ) (z : ℤ) → CompletionMoves s.world (sized s element z)
sized_moves s element (pos n) = defaults_nowhere (storage_of element) n
sized_moves s element (negsuc n) = tt

made_moves : (s : Site) (element : List ℕ) (r : Result ℤ Fault) → CompletionMoves s.world (array_made s element r)
made_moves s element (Err fault) = tt
made_moves s element (Ok z) = sized_moves s element z

length_moves : (s : Site) → running (frames_in s) ≡ Some s.frame → (c : Contents)
    → CompletionMoves s.world (length_of s c)
length_moves s e (Instance class fields) = tt
length_moves s e (Array element values) =
    site_moves s e (replaced s.next s.frame 1 (Int (pos (length values)) ∷ []))
    (replaced_lawful s.world s.next s.frame 1 (Int (pos (length values)) ∷ []) ((λ b k. absurd (cc)), tt))

measured_moves : (s : Site) → running (frames_in s) ≡ Some s.frame → (r : Result (Option ℕ) Fault)
    → CompletionMoves s.world (measured s r)
measured_moves s e (Err fault) = tt
measured_moves s e (Ok None) = tt
measured_moves s e (Ok (Some birth)) = length_moves s e (contents_at s.world birth)

-- ---- an element's place is in the array that was an operand

indexed-birth : (birth : ℕ) (o : Option ℕ) (place : ℕ × ℕ) → indexed birth o ≡ Ok place → birth ≡ place.0
indexed-birth birth None place e = absurd (cc)
indexed-birth birth (Some k) place e = cc

if_array-birth : (birth : ℕ) (o : Option ℕ) (is : Bool) (place : ℕ × ℕ) → if_array is (indexed birth o) ≡ Ok place
    → birth ≡ place.0
if_array-birth birth o true place e = indexed-birth birth o place e
if_array-birth birth o false place e = absurd (cc)

place-birth : (w : World) (kind : ElementKind) (z : ℤ) (array : Option ℕ) (place : ℕ × ℕ) → element_place w kind z array
    ≡ Ok place → array ≡ Some place.0
place-birth w kind z None place e = absurd (cc)
place-birth w kind z (Some birth) place e =
    (let k : birth ≡ place.0 = if_array-birth birth (index_in z (contents_at w birth))
    (is_array_of kind (contents_at w birth)) place e in rw k refl)

-- ---- loads

got_moves : (s : Site) → running (frames_in s) ≡ Some s.frame → (kind : ElementKind) (z : ℤ) (array : Option ℕ)
    → ((b : ℕ) → array ≡ Some b → Reach s.world b) → (r : Result (ℕ × ℕ) Abrupt) → element_place s.world kind z array
    ≡ r → CompletionMoves s.world (element_got s r)
got_moves s e kind z array known (Err abrupt) k = abrupt_moves s.world abrupt
got_moves s e kind z array known (Ok place) k =
    let v = word_of (contents_at s.world place.0) place.1 in
    site_moves s e (replaced s.next s.frame 2 (v ∷ []))
    (replaced_lawful s.world s.next s.frame 2 (v ∷ [])
    (word_may s.world place.0 place.1 (known place.0 (place-birth s.world kind z array place k))))

loaded_moves : (s : Site) → running (frames_in s) ≡ Some s.frame
    → (kind : ElementKind) (r : Result (ℤ × Option ℕ) Fault)
    → both (int_on s.frame.stack) (ref_on (drop 1 s.frame.stack)) ≡ r → CompletionMoves s.world (loaded s kind r)
loaded_moves s e kind (Err fault) k = tt
loaded_moves s e kind (Ok operands) k =
    let array : ref_on (drop 1 s.frame.stack) ≡ Ok operands.1 = both-second (int_on s.frame.stack)
    (ref_on (drop 1 s.frame.stack)) operands k in
    got_moves s e kind operands.0 operands.1
    (λ b h. ref_on-known _ (drop 1 s.frame.stack) b (below_known s.world s.thread 1 s.frame e) (rw h at array))
    (element_place s.world kind operands.0 operands.1) refl

-- ---- stores

if_moves : (s : Site) → running (frames_in s) ≡ Some s.frame → (storage : Storage) (v : Value)
    → AllMay (Reach s.world) (map ref_of (v ∷ [])) → (place : ℕ × ℕ) (may : Bool)
    → CompletionMoves s.world (put_if s storage v place may)
if_moves s e storage v known place true =
    puts_moves s e (with_word s.world place.0 place.1 (kept storage v)) 3 v known
    (word_stored _ s.world place.0 place.1 (kept storage v) (put_may storage v))
if_moves s e storage v known place false = tt

element_put_moves : (s : Site) → running (frames_in s) ≡ Some s.frame → (storage : Storage) (v : Value)
    → AllMay (Reach s.world) (map ref_of (v ∷ [])) → (r : Result (ℕ × ℕ) Abrupt)
    → CompletionMoves s.world (element_put s storage v r)
element_put_moves s e storage v known (Err abrupt) = abrupt_moves s.world abrupt
element_put_moves s e storage v known (Ok place) = if_moves s e storage v known place
    (may_hold s (contents_at s.world place.0) v)

stored_moves : (s : Site) → running (frames_in s) ≡ Some s.frame
    → (kind : ElementKind) (r : Result (Value × (ℤ × Option ℕ)) Fault)
    → both (value_on (storage_kind (storage_in kind)) s.frame.stack)
    (both (int_on (drop 1 s.frame.stack)) (ref_on (drop 2 s.frame.stack))) ≡ r
    → CompletionMoves s.world (array_stored s kind r)
stored_moves s e kind (Err fault) k = tt
stored_moves s e kind (Ok operands) k =
    let wanted = storage_kind (storage_in kind) in
    element_put_moves s e (storage_in kind) operands.0
    (value_on-known _ wanted s.frame.stack operands.0 (stack_known s.world s.thread _ s.frame e)
    (both-first (value_on wanted s.frame.stack) _ operands k))
    (element_place s.world kind operands.1.0 operands.1.1)

pub array_moves : (s : Site) → running (frames_in s) ≡ Some s.frame → (operation : ArrayOperation (List ℕ))
    → CompletionMoves s.world (array_operated s operation)
array_moves s e (New primitive) = made_moves s (letter_of primitive) (int_on s.frame.stack)
array_moves s e (NewOf name) = made_moves s (descriptor_of name) (int_on s.frame.stack)
array_moves s e Length = measured_moves s e (ref_on s.frame.stack)
array_moves s e (Load kind) = loaded_moves s e kind _ refl
array_moves s e (Store kind) = stored_moves s e kind _ refl
