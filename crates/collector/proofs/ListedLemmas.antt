use Rattle.std.proofs.Common.{arith, ◌≡◌, ℕ, zero, suc, ◌≤◌, ◌-◌, List, [], ◌∷◌, length, map, slice_get, Option, None}
use Rattle.std.proofs.Common.{refl, sym, ◌∙◌, ap}
use Rattle.std.proofs.lemmas.List.{length-map}
use Rattle.model.specs.declared.values.Value.{Value}
use Rattle.model.specs.Frames.{Frame}
use Rattle.model.specs.Collector.Places.{field_ref, ref_at, ref_of, root_at, word_at, words_of}
use Rattle.model.specs.Collector.Places.Place.{Slot}
use Rattle.join.specs.OnCells.{nobody}
use Rattle.cells.specs.Objects.{StoredObject, object_if, words_if}
use Rattle.collector.specs.ListedWorlds.{slot_leading, leads_of, listed_world, object_in}

-- What the collector finds in a machine told by plain lists.

at_place : (vs : List Value) (n : ℕ) → leads_of (slice_get vs n) ≡ ref_at (map ref_of vs) n
at_place [] n = refl
at_place (v ∷ vs) zero = refl
at_place (v ∷ vs) (suc n) = at_place vs n

-- ---- static slots

slots_are : (slots : List (Option ℕ)) → slots ≡ map field_ref (map slot_leading slots)
slots_are [] = refl
slots_are (leads ∷ slots) = ap (λ rs. leads ∷ rs) (slots_are slots)

pub slot_is : {K : Type 0} (slots : List (Option ℕ)) (frames : List Frame) (objects : List (Option (StoredObject K)))
    (n : ℕ)
    → ref_at slots n ≡ root_at (listed_world slots frames objects) (Slot n)
unfolding root_at
slot_is slots frames objects n = ap (λ rs. ref_at rs n) (slots_are slots)

-- ---- words

words_are : {K : Type 0} (objects : List (Option (StoredObject K))) (c : ℕ)
    → words_of (nobody ∷ map object_in objects) (suc c) ≡ map ref_of (words_if (object_if (slice_get objects c)))
words_are [] c = refl
words_are (o ∷ objects) zero = refl
words_are (o ∷ objects) (suc c) = words_are objects c

pub words_number : {K : Type 0} (objects : List (Option (StoredObject K))) (c : ℕ)
    → length (words_if (object_if (slice_get objects c))) ≡ length (words_of (nobody ∷ map object_in objects) (suc c))
words_number objects c =
    sym (ap length (words_are objects c) ∙ length-map (words_if (object_if (slice_get objects c))) ref_of)

word_is : (slots : List (Option ℕ)) (frames : List Frame) (objects : List (Option (StoredObject ℕ))) (c n : ℕ)
    → leads_of (slice_get (words_if (object_if (slice_get objects c))) n)
    ≡ word_at (listed_world slots frames objects) (suc c) n
unfolding word_at
word_is slots frames objects c n =
    at_place (words_if (object_if (slice_get objects c))) n ∙ ap (λ rs. ref_at rs n) (sym (words_are objects c))

no_word : (slots : List (Option ℕ)) (frames : List Frame) (objects : List (Option (StoredObject ℕ))) (n : ℕ)
    → None ≡ word_at (listed_world slots frames objects) 0 n
unfolding word_at
no_word slots frames objects n = refl

-- the same, at a reference whose cell is reported by a difference
pub word_at_cell : (slots : List (Option ℕ)) (frames : List Frame) (objects : List (Option (StoredObject ℕ)))
    (r c n : ℕ)
    → 1 ≤ r → c ≡ r - 1
    → leads_of (slice_get (words_if (object_if (slice_get objects c))) n)
    ≡ word_at (listed_world slots frames objects) r n
word_at_cell slots frames objects zero c n some is = absurd (omega (arith, some))
word_at_cell slots frames objects (suc r) c n some is =
    let same : c ≡ r = omega (arith, is) in rw same (word_is slots frames objects r n)

pub word_at_none : (slots : List (Option ℕ)) (frames : List Frame) (objects : List (Option (StoredObject ℕ))) (r n : ℕ)
    → (1 ≤ r → ⊥) → None ≡ word_at (listed_world slots frames objects) r n
word_at_none slots frames objects zero n none = no_word slots frames objects n
word_at_none slots frames objects (suc r) n none = absurd (none (omega arith))
