use Rattle.std.proofs.Common.{◌≡◌, ℕ, suc, ◌+◌, ◌<◌, List, ◌∷◌, length, drop, get_or, Option, sym, ◌∙◌, ap, arith}
use Rattle.std.proofs.Math.Seq.{drop-cons}
use Rattle.std.specs.List.{flat_map}
use Rattle.collector.specs.Reaching.{Marking, all_noted}
use Rattle.collector.proofs.ListsNoted.{noted-append}

-- what a walk notes, one after another

pub ruleset walks = (noted-append)

-- one is noted, and then those after it
pub next_noted : {A : Type 0} (roots : A → List (Option ℕ)) (xs : List A) (i : ℕ) (x : A) (m new : Marking)
    → new ≡ all_noted m (roots x) → x ≡ get_or xs i x → i < length xs
    → all_noted new (flat_map roots (drop (i + 1) xs)) ≡ all_noted m (flat_map roots (drop i xs))
next_noted roots xs i x m new e is l =
    let next : i + 1 ≡ suc i = omega arith in
    rw (e, next) (sym (noted-append m (roots x) (flat_map roots (drop (suc i) xs)))
    ∙ ap (λ ys. all_noted m (flat_map roots ys)) (ap (λ y. y ∷ drop (suc i) xs) is ∙ sym (drop-cons xs i x l)))
