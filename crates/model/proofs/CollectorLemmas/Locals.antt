use Rattle.std.proofs.Common.{◌≡◌, ◌⊎◌, inl, inr, ℕ, zero, suc, ◌+◌, ◌-◌, Bool, true, false, List, [], ◌∷◌, length, map}
use Rattle.std.proofs.Common.{set, slice_get, Option, Some, None, Result, Ok, Err, refl, sym, ◌∙◌, ap, length-set}
use Rattle.std.proofs.lemmas.List.{map-set, length-map}
use Rattle.model.specs.declared.values.Kind.{Kind}
use Rattle.model.specs.declared.values.Kind.TheVariants.{Int as IntKind, Long as LongKind, Ref as RefKind}
use Rattle.model.specs.declared.values.Value.{Value}
use Rattle.model.specs.declared.values.Value.TheVariants.{Int, Long, Ref}
use Rattle.model.specs.declared.values.Entry.{Entry}
use Rattle.model.specs.declared.values.Entry.TheVariants.{Unset, Holds, UpperHalf}
use Rattle.model.specs.declared.turns.Fault.{Fault}
use Rattle.model.specs.Frames.{Frame, running}
use Rattle.model.specs.Worlds.{World, frames_at}
use Rattle.model.specs.Locals.{has_local, of_kind, value_on, value_in_entry, value_if_local, local_at, without_half}
use Rattle.model.specs.Locals.{freed, with_local, stored, stored_if_local, stored_at}
use Rattle.model.specs.Collector.Places.{ref_of, entry_ref, Reach}
use Rattle.model.specs.Collector.Invariant.{In}
use Rattle.model.specs.Collector.Moves.{RefsMove, FrameMoves, ResultMoves}
use Rattle.model.proofs.CollectorLemmas.Moving.{AllMay, refs_same, refs_set, refs_both, refs_trans}
use Rattle.model.proofs.CollectorLemmas.Stepping.{in_births, may_births, stack_pushed}
use Rattle.model.proofs.CollectorLemmas.Known.{locals_known, stack_known}

-- locals: what is found in them, and what they are after a store

-- ---- a local is written

set_moves : (P : ℕ → Type 0) (locals : List Entry) (k : ℕ) (entry : Entry) → ((b : ℕ) → entry_ref entry ≡ Some b → P b)
    → RefsMove P (map entry_ref locals) (map entry_ref (set locals k entry))
set_moves P locals k entry h = rw (map-set entry_ref locals k entry)
    (refs_set P (map entry_ref locals) k (entry_ref entry) h)

unset_moves : (P : ℕ → Type 0) (locals : List Entry) (k : ℕ)
    → RefsMove P (map entry_ref locals) (map entry_ref (set locals k Unset))
unset_moves P locals k = set_moves P locals k Unset (λ b e. absurd (cc))

half_moves : (P : ℕ → Type 0) (locals : List Entry) (index : ℕ) (entry : Option Entry)
    → RefsMove P (map entry_ref locals) (map entry_ref (without_half locals index entry))
half_moves P locals index None = refs_same P (map entry_ref locals)
half_moves P locals index (Some Unset) = refs_same P (map entry_ref locals)
half_moves P locals index (Some (Holds (Int z))) = refs_same P (map entry_ref locals)
half_moves P locals index (Some (Holds (Long z))) = unset_moves P locals (index + 1)
half_moves P locals index (Some (Holds (Ref r))) = refs_same P (map entry_ref locals)
half_moves P locals index (Some UpperHalf) = unset_moves P locals (index - 1)

freed_moves : (P : ℕ → Type 0) (locals : List Entry) (index : ℕ)
    → RefsMove P (map entry_ref locals) (map entry_ref (freed locals index))
freed_moves P locals index = half_moves P locals index (slice_get locals index)

-- one write after another
then_set : (P : ℕ → Type 0) (locals after : List Entry) (k : ℕ) (entry : Entry)
    → ((b : ℕ) → entry_ref entry ≡ Some b → P b) → RefsMove P (map entry_ref locals) (map entry_ref after)
    → RefsMove P (map entry_ref locals) (map entry_ref (set after k entry))
then_set P locals after k entry h m = refs_trans P (map entry_ref locals) (map entry_ref after)
    (map entry_ref (set after k entry)) m (set_moves P after k entry h)

pub with_local_moves : (P : ℕ → Type 0) (locals : List Entry) (index : ℕ) (v : Value)
    → ((b : ℕ) → ref_of v ≡ Some b → P b)
    → RefsMove P (map entry_ref locals) (map entry_ref (with_local locals index v))
with_local_moves P locals index (Int z) h = then_set P locals (freed locals index)
    index (Holds (Int z)) h (freed_moves P locals index)
with_local_moves P locals index (Ref r) h = then_set P locals (freed locals index)
    index (Holds (Ref r)) h (freed_moves P locals index)
with_local_moves P locals index (Long z) h =
    let one = freed locals index in
    let two = freed one (index + 1) in
    let m = refs_trans P (map entry_ref locals) (map entry_ref one) (map entry_ref two) (freed_moves P locals
    index) (freed_moves P one (index + 1)) in
    then_set P locals (set two index (Holds (Long z))) (index + 1) UpperHalf (λ b e. absurd (cc)) (then_set P locals two
    index (Holds (Long z)) h m)

-- ---- their number stays

length-half : (locals : List Entry) (index : ℕ) (entry : Option Entry) → length (without_half locals index entry)
    ≡ length locals
length-half locals index None = refl
length-half locals index (Some Unset) = refl
length-half locals index (Some (Holds (Int z))) = refl
length-half locals index (Some (Holds (Long z))) = length-set locals (index + 1) Unset
length-half locals index (Some (Holds (Ref r))) = refl
length-half locals index (Some UpperHalf) = length-set locals (index - 1) Unset

length-freed : (locals : List Entry) (index : ℕ) → length (freed locals index) ≡ length locals
length-freed locals index = length-half locals index (slice_get locals index)

length-with_local : (locals : List Entry) (index : ℕ) (v : Value) → length (with_local locals index v) ≡ length locals
length-with_local locals index (Int z) = length-set (freed locals index) index (Holds (Int z)) ∙ length-freed locals
    index
length-with_local locals index (Ref r) = length-set (freed locals index) index (Holds (Ref r)) ∙ length-freed locals
    index
length-with_local locals index (Long z) =
    let one = freed locals index in
    let two = freed one (index + 1) in
    length-set (set two index (Holds (Long z))) (index + 1) UpperHalf ∙ length-set two index (Holds (Long z))
    ∙ length-freed one (index + 1) ∙ length-freed locals index

-- ---- a store

pub stored_moves : (P : ℕ → Type 0) (next : ℕ) (f : Frame) (n index : ℕ) (v : Value)
    → ((b : ℕ) → ref_of v ≡ Some b → P b) → FrameMoves P f (stored next f n index v).frame
stored_moves P next f n index v h =
    let e = length-map f.locals entry_ref ∙ sym (length-with_local f.locals index v)
    ∙ sym (length-map (with_local f.locals index v) entry_ref) in (
      refs_both P (map entry_ref f.locals) (map entry_ref (with_local f.locals index v)) _ _ e
          (with_local_moves P f.locals index v h) (stack_pushed P n f.stack [] tt),
      λ b k. inl k,
    )

pub stored_lawful : (w : World) (next : ℕ) (f : Frame) (n index : ℕ) (v : Value)
    → ((b : ℕ) → ref_of v ≡ Some b → Reach w b) → ResultMoves w f (Ok (stored next f n index v))
stored_lawful w next f n index v h = (
  stored_moves (λ b. ⊥ ⊎ In b (stored next f n index v).writes) next f n
      index v (may_births (v ∷ []) (λ b. ⊥ ⊎ In b (stored next f n index v).writes) (λ b k. inr k)).0,
  in_births (v ∷ []) (Reach w) (h, tt),
)

-- ---- what is found

-- of a kind or not, it is the value that was there
same_of_kind : (kind : Kind) (u v : Value) → of_kind kind u ≡ Ok v → u ≡ v
same_of_kind IntKind (Int z) v e = cc
same_of_kind IntKind (Long z) v e = absurd (cc)
same_of_kind IntKind (Ref r) v e = absurd (cc)
same_of_kind LongKind (Int z) v e = absurd (cc)
same_of_kind LongKind (Long z) v e = cc
same_of_kind LongKind (Ref r) v e = absurd (cc)
same_of_kind RefKind (Int z) v e = absurd (cc)
same_of_kind RefKind (Long z) v e = absurd (cc)
same_of_kind RefKind (Ref r) v e = cc

top_may : (Q : ℕ → Type 0) (kind : Kind) (stack : List Value) (v : Value) → AllMay Q (map ref_of stack)
    → value_on kind stack ≡ Ok v → (b : ℕ) → ref_of v ≡ Some b → Q b
top_may Q kind [] v h e b k = absurd (cc)
top_may Q kind (u ∷ stack) v h e b k = h.0 b (let s = ap ref_of (same_of_kind kind u v e) in s ∙ k)

-- the operand at the top
pub value_on_known : (w : World) (t : ℕ) (f : Frame) (kind : Kind) (v : Value) → running (frames_at w t) ≡ Some f
    → value_on kind f.stack ≡ Ok v → (b : ℕ) → ref_of v ≡ Some b → Reach w b
value_on_known w t f kind v e h = top_may (Reach w) kind f.stack v (stack_known w t _ f e) h

entry_may : (Q : ℕ → Type 0) (kind : Kind) (locals : List Entry) (index : ℕ) (v : Value)
    → AllMay Q (map entry_ref locals) → value_in_entry kind (slice_get locals index) ≡ Ok v → (b : ℕ)
    → ref_of v ≡ Some b → Q b
entry_may Q kind [] index v h e b k = absurd (cc)
entry_may Q kind (Unset ∷ locals) zero v h e b k = absurd (cc)
entry_may Q kind (Holds u ∷ locals) zero v h e b k = h.0 b (let s = ap ref_of (same_of_kind kind u v e) in s ∙ k)
entry_may Q kind (UpperHalf ∷ locals) zero v h e b k = absurd (cc)
entry_may Q kind (x ∷ locals) (suc index) v h e b k = entry_may Q kind locals index v h.1 e b k

local_may : (Q : ℕ → Type 0) (kind : Kind) (locals : List Entry) (index : ℕ) (has : Bool) (v : Value)
    → AllMay Q (map entry_ref locals) → value_if_local kind has (slice_get locals index) ≡ Ok v → (b : ℕ)
    → ref_of v ≡ Some b → Q b
local_may Q kind locals index true v h e b k = entry_may Q kind locals index v h e b k
local_may Q kind locals index false v h e b k = absurd (cc)

-- a local of a kind
pub local_at_known : (w : World) (t : ℕ) (f : Frame) (kind : Kind) (index : ℕ) (v : Value) → running (frames_at w t)
    ≡ Some f → local_at kind f.locals index ≡ Ok v → (b : ℕ) → ref_of v ≡ Some b → Reach w b
local_at_known w t f kind index v e h = local_may (Reach w) kind f.locals
    index (has_local kind f.locals index) v (locals_known w t _ f e) h

-- ---- a store of the operand at the top

stored_if_lawful : (w : World) (next : ℕ) (f : Frame) (index : ℕ) (has : Bool) (r : Result Value Fault)
    → ((v : Value) → r ≡ Ok v → (b : ℕ) → ref_of v ≡ Some b → Reach w b)
    → ResultMoves w f (stored_if_local next f index has r)
stored_if_lawful w next f index has (Err e) h = tt
stored_if_lawful w next f index true (Ok v) h = stored_lawful w next f 1 index v (h v refl)
stored_if_lawful w next f index false (Ok v) h = tt

pub stored_at_lawful : (w : World) (t next : ℕ) (kind : Kind) (index : ℕ) (f : Frame) → running (frames_at w t) ≡ Some f
    → ResultMoves w f (stored_at next kind index f)
stored_at_lawful w t next kind index f e = stored_if_lawful w next f
    index (has_local kind f.locals index) (value_on kind f.stack) (λ v h. value_on_known w t f kind v e h)
