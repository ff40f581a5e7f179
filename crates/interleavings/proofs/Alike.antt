use Rattle.std.proofs.Common.{◌≡◌, ◌∙◌, ◌-◌, ◌≤◌, ℕ, List, ap, sym, take, set, arith}
use Rattle.std.proofs.lemmas.List.{take-take, take-set}

-- Lists that are alike in front.

pub alike_before : {X : Type 0} (xs ys : List X) (n : ℕ) (x : X) → take n xs ≡ take n ys
    → take (n - 1) (set xs (n - 1) x) ≡ take (n - 1) ys
alike_before xs ys n x same = take-set xs (n - 1) x ∙ sym (take-take (n - 1) n xs (omega arith))
    ∙ ap (take (n - 1)) same ∙ take-take (n - 1) n ys (omega arith)

pub alike_in_front : {X : Type 0} (xs ys : List X) (n k : ℕ) → k ≤ n → take n xs ≡ take n ys → take k xs ≡ take k ys
alike_in_front xs ys n k less same = sym (take-take k n xs less) ∙ ap (take k) same ∙ take-take k n ys less
