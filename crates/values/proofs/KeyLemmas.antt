-- the first pair of a key among pairs, from one on
use Rattle.std.proofs.Common.{◌≡◌, ℕ, ◌+◌, ◌<◌, ◌≤◌, ℤ, true, false, List, length, drop, get_or, ap, ◌∙◌, sym, refl}
use Rattle.std.proofs.lemmas.List.{drop_more, drop_all}
use Rattle.std.specs.Ordering.{int_eq}
use Rattle.model.specs.Table.Switches.{target_of_key}

-- the pair at i is of another key
pub key-passed : (pairs : List (ℤ × ℕ)) (i : ℕ) (d : ℤ × ℕ) (default : ℕ) (z : ℤ) → i < length pairs
    → int_eq (get_or pairs i d).0 z ≡ false → target_of_key (drop (i + 1) pairs) default z
    ≡ target_of_key (drop i pairs) default z
key-passed pairs i d default z within other =
    sym (ap (λ (rest : List (ℤ × ℕ)). target_of_key rest default z) (drop_more pairs i d within) ∙ rw other refl)

-- it is of the key
pub key-found : (pairs : List (ℤ × ℕ)) (i : ℕ) (d : ℤ × ℕ) (default : ℕ) (z : ℤ) → i < length pairs
    → int_eq (get_or pairs i d).0 z ≡ true → target_of_key (drop i pairs) default z ≡ (get_or pairs i d).1
key-found pairs i d default z within same =
    ap (λ (rest : List (ℤ × ℕ)). target_of_key rest default z) (drop_more pairs i d within) ∙ rw same refl

-- there is none left
pub key-missing : (pairs : List (ℤ × ℕ)) (i default : ℕ) (z : ℤ) → length pairs ≤ i
    → target_of_key (drop i pairs) default z ≡ default
key-missing pairs i default z past = ap (λ (rest : List (ℤ × ℕ)). target_of_key rest default z) (drop_all i pairs past)

pub ruleset keys = (key-passed, key-found, key-missing)
