-- What stands before a byte, and after it.
use Rattle.std.proofs.Common.{◌≡◌, ◌+◌, ◌-◌, ℕ, List, Option, Some, None, ◌∙◌, ap, drop, length, sym, take}
use Rattle.std.specs.Prelude.{◌==◌}
use Rattle.std.specs.List.{position}
use Rattle.std.proofs.lemmas.List.{take_rest}
use Rattle.debug_texts.specs.Commands.{cut, cut_at}

pub not_cut : (byte : ℕ) (bytes : List ℕ) (place : Option ℕ) → place ≡ position (λ b. b == byte) bytes → place ≡ None
    → cut byte bytes ≡ None
not_cut byte bytes place is none = ap (cut_at bytes) (sym is ∙ none)

pub cut_there : (byte : ℕ) (bytes : List ℕ) (place : Option ℕ) (n : ℕ) → place ≡ position (λ b. b == byte) bytes
    → place ≡ Some n
    → cut byte bytes ≡ Some (take n bytes, take (length bytes - (n + 1)) (drop (n + 1) bytes))
cut_there byte bytes place n is some =
    ap (cut_at bytes) (sym is ∙ some)
    ∙ ap (λ (rest : List ℕ). Some (take n bytes, rest)) (sym (take_rest bytes (n + 1)))

pub ruleset cuts = (not_cut, cut_there)
