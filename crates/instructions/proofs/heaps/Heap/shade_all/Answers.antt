use Rattle.std.proofs.Common.{◌≡◌, ◌+◌, ◌<◌, ◌∙◌, ℕ, suc, List, Some, drop, get_or, length, refl, sym, ap, arith}
use Rattle.std.proofs.Math.Seq.{drop-cons}
use Rattle.std.proofs.lemmas.List.{drop_all}
use Rattle.instructions.specs.Heaps.{HeapValue, all_shaded, shaded}
use Rattle.instructions.proofs.heaps.Heap.shade_all.Goals as goal

-- the next of the references is shaded
shaded_next : (h : HeapValue) (items xs : List ℕ) (i : ℕ) → items ≡ xs → i < length items
    → all_shaded (shaded h (Some (get_or items i 0))) (drop (i + 1) xs) ≡ all_shaded h (drop i xs)
shaded_next h items xs i same within =
    let next : i + 1 ≡ suc i = omega arith in
    rw (← same, next) (ap (all_shaded h) (sym (drop-cons items i 0 within)))

pub loop-reference-init : goal.loop-reference-init
loop-reference-init c = refl

pub loop-reference-preserved : goal.loop-reference-preserved
loop-reference-preserved c =
    rw c.shade.ensures
    (shaded_next c.loop-reference.self _ _ c.loop-reference.reference-index c.as_slice-reference-items.ensures
    c.loop-reference-test.true
    ∙ c.loop-reference.invariant)

pub returns : goal.returns
returns c =
    let i = c.loop-reference.reference-index in
    let xs = c.as_slice-reference-items.result.now in
    ap (all_shaded c.loop-reference.self) (sym (drop_all i xs c.loop-reference-test.false)
    ∙ ap (drop i) c.as_slice-reference-items.ensures)
    ∙ c.loop-reference.invariant
