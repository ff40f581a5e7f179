use Rattle.std.proofs.Common.{◌≡◌, ℕ, suc, ◌+◌, ◌-◌, ◌<◌, ◌≤◌, arith, List, [], ◌∷◌, ◌++◌, replicate, slice_get, Some, None}
use Rattle.std.proofs.Common.{sym, ◌∙◌, ap}
use Rattle.std.proofs.lemmas.List.{append-nil, append_assoc}
use Rattle.exploring.specs.declared.explored.Move.{Move}
use Rattle.exploring.specs.declared.origins.Origin.{Origin}
use Rattle.exploring.specs.Origins.{back_by, back_from, moves_back, plain_after}

-- from a state to its parent, one after another

module _ (origins : List Origin) (n i at : ℕ) (ms all : List Move)
    (left : ms ++ moves_back origins (n - i) at ≡ all) where
  -- one more is left
  size : i < n → n - i ≡ suc (n - (i + 1))
  size l = omega (arith, l)

  pub one_back : i < n → (o : Origin) → slice_get origins at ≡ Some o → (more : List Move)
      → more ≡ ms ++ replicate o.ahead (plain_after o.by)
      → (more ++ o.by ∷ []) ++ moves_back origins (n - (i + 1)) o.parent ≡ all
  one_back l o e more is =
      let rest = moves_back origins (n - (i + 1)) in
      let back = ap (λ (k : ℕ). moves_back origins k at) (size l) ∙ ap (back_by rest) e in
      let plain = replicate o.ahead (plain_after o.by) in
      ap (λ xs. (xs ++ o.by ∷ []) ++ rest o.parent) is
      ∙ ap (λ xs. xs ++ rest o.parent) (append_assoc ms plain (o.by ∷ []))
      ∙ append_assoc ms (back_from o) (rest o.parent) ∙ ap (λ xs. ms ++ xs) (sym back) ∙ left

  pub none_back : i < n → slice_get origins at ≡ None → ms ≡ all
  none_back l e =
      let rest = moves_back origins (n - (i + 1)) in
      let back = ap (λ (k : ℕ). moves_back origins k at) (size l) ∙ ap (back_by rest) e in
      sym (append-nil ms) ∙ ap (λ xs. ms ++ xs) (sym back) ∙ left

  pub all_back : n ≤ i → ms ≡ all
  all_back l =
      let none : n - i ≡ 0 = omega (arith, l) in
      sym (append-nil ms) ∙ ap (λ xs. ms ++ xs) (sym (ap (λ (k : ℕ). moves_back origins k at) none)) ∙ left

pub ruleset backs = (one_back, none_back, all_back)

-- ---- a move, so many times

module _ (n i : ℕ) (m : Move) (ms all : List Move) (left : ms ++ replicate (n - i) m ≡ all) where
  pub one_more_time : i < n → (ms ++ m ∷ []) ++ replicate (n - (i + 1)) m ≡ all
  one_more_time l =
      let size : n - i ≡ suc (n - (i + 1)) = omega (arith, l) in
      append_assoc ms (m ∷ []) (replicate (n - (i + 1)) m)
      ∙ ap (λ xs. ms ++ xs) (sym (ap (λ (k : ℕ). replicate k m) size)) ∙ left

  pub no_more_times : n ≤ i → ms ≡ all
  no_more_times l =
      let none : n - i ≡ 0 = omega (arith, l) in
      sym (append-nil ms) ∙ ap (λ xs. ms ++ xs) (sym (ap (λ (k : ℕ). replicate k m) none)) ∙ left

pub ruleset times = (one_more_time, no_more_times)
