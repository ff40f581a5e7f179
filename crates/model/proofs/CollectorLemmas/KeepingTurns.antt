use Rattle.std.proofs.Common.{◌≡◌, ◌⊎◌, inl, inr, ℕ, List, [], ◌∷◌, ◌++◌, set, Option, Some, None, IsTrue, is_some}
use Rattle.std.proofs.Common.{refl}
use Rattle.model.specs.declared.colours.Colour.{Colour}
use Rattle.model.specs.declared.colours.Colour.TheVariants.{Grey}
use Rattle.model.specs.declared.journals.HeapShape.{HeapShape}
use Rattle.model.specs.Accounts.{Account, shade, shade_all, take_cell, in_cell, new_object}
use Rattle.model.specs.declared.colours.Cell.TheVariants.{Taken}
use Rattle.model.specs.Worlds.{World, next_birth}
use Rattle.model.specs.Collector.Table.{cell_at}
use Rattle.model.specs.Collector.Invariant.{In, Kept, HasKept, Tidy, Invariant}
use Rattle.model.specs.Collector.Changes.{Change, IsNew, births_after, Allowed, RoomFor, changed}
use Rattle.model.proofs.CollectorLemmas.Shading.{kept_before, kept_in_shade, shade_keeps, reach_kept}
use Rattle.model.proofs.CollectorLemmas.Taking.{relisted, Takes, takes, came_before, came_here}
use Rattle.model.proofs.CollectorLemmas.Turning.{opened}

-- a cell that is kept after a thread's turn was kept before it, or holds the new birth

-- held and kept
unfoldable pub HeldKept : Account → ℕ → ℕ → Type 0
HeldKept a d b = (y : Colour) × (cell_at a.cells d ≡ Taken b y) × Kept a.phase d y

shade_back : (shape : HeapShape) (n : ℕ) (a : Account) (x : ℕ) → Tidy shape n a → HasKept a.phase a.cells x → (d b : ℕ)
    → HeldKept (shade a x) d b → HeldKept a d b
unfolding shade HeldKept
shade_back shape n a x i k d b h = kept_before shape n a x i k d b h.0 h.1 h.2

all_back : (shape : HeapShape) (w : World) (n : ℕ) (xs : List ℕ) (a : Account)
    → ((x : ℕ) → In x xs → HasKept a.phase a.cells x) → Invariant shape w n a → (d b : ℕ)
    → HeldKept (shade_all a xs) d b → HeldKept a d b
all_back shape w n [] a k i d b h = h
all_back shape w n (x ∷ xs) a k i d b h =
    let first = k x (inl refl) in
    shade_back shape n a x i.tidy first d b
    (all_back shape w n xs (shade a x) (λ y m. kept_in_shade a x y (k y (inr m))) (shade_keeps shape w n a x first i) d
    b h)

here_back : (shape : HeapShape) (n c : ℕ) (a e : Account) → Takes shape n a c e → (d b : ℕ)
    → HeldKept (record e { cells = set e.cells c (Taken n Grey); grey = e.grey ++ n ∷ [] }) d b
    → (b ≡ n) ⊎ HeldKept a d b
unfolding HeldKept
here_back shape n c a e t d b h =
    let k : HeldKept (record (relisted a t.small t.medium t.large) {
      cells = set a.cells c (Taken n Grey);
      grey = a.grey ++ n ∷ [];
    }) d b = rw t.is at h in
    elim (came_before n c Grey a.cells (set a.cells c (Taken n Grey)) (came_here n c Grey a.cells t.within t.was_free) d
    b k.0 k.1) [
      | inl s ↦ inl s.1
      | inr s ↦ inr (k.0, s, k.2)
    ]

placed_back : (shape : HeapShape) (n words : ℕ) (a : Account) (o : Option (ℕ × Account)) → take_cell a words ≡ o
    → IsTrue (is_some o) → Tidy shape n a → (d b : ℕ)
    → HeldKept (record (in_cell a n Grey o) { grey = (in_cell a n Grey o).grey ++ n ∷ [] }) d b
    → (b ≡ n) ⊎ HeldKept a d b
placed_back shape n words a (Some r) e room i d b h = here_back shape n r.0 a r.1 (takes shape n a words r e i) d b h
placed_back shape n words a None e room i d b h = absurd (cc)

object_back : (shape : HeapShape) (n : ℕ) (object : Option ℕ) (a : Account) → RoomFor object a → Tidy shape n a
    → (d b : ℕ) → HeldKept (new_object a n object) d b → IsNew object n b ⊎ HeldKept a d b
object_back shape n (Some words) a room i d b h = placed_back shape n words a (take_cell a words) refl room i d b h
object_back shape n None a room i d b h = inr h

pub changed_kept : (shape : HeapShape) (w : World) (a : Account) (c : Change) → RoomFor c.object a → Allowed w c
    → Invariant shape w (next_birth w) a → (d b : ℕ) → HeldKept (changed w a c) d b
    → IsNew c.object (next_birth w) b ⊎ HeldKept a d b
unfolding changed
changed_kept shape w a c room h i d b k =
    let n = next_birth w in
    let e = new_object a n c.object in
    let o = opened shape w c.object a room i in
    let written = λ (x : ℕ) (m : In x c.writes). elim (h.writes x m) as (λ _. HasKept e.phase e.cells x) [
      | inl s ↦ (o.new x s).kept
      | inr r ↦ o.old x (reach_kept shape w n a x i r)
    ] in
    object_back shape n c.object a room i.tidy d b (all_back shape w (births_after c.object n) c.writes e written o.inv
    d b k)
