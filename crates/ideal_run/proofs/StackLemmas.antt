-- stacks, top first
use Rattle.std.proofs.Common.{◌≡◌, ℕ, ◌+◌, ◌-◌, ◌<◌, ◌≤◌, false, List, [], ◌∷◌, ◌++◌, length, get_or, drop, reverse}
use Rattle.std.proofs.Common.{nat_le, refl, sym, ◌∙◌, ap, arith}
use Rattle.std.proofs.lemmas.List.{drop_more}
use Rattle.std.proofs.lemmas.Bool.Decides.{nat_tests}
use Rattle.model.specs.declared.values.Value.{Value}
use Rattle.model.specs.Values.{units_of, units_of_all}
use Rattle.model.specs.Frames.{push_all}

push_all-under : (vs top stack : List Value) → push_all vs (top ++ stack) ≡ push_all vs top ++ stack
push_all-under [] top stack = refl
push_all-under (v ∷ vs) top stack = push_all-under vs (v ∷ top) stack

-- what is pushed lies in turn on the stack
pub push_all-is : (vs stack : List Value) → push_all vs stack ≡ reverse vs ++ stack
push_all-is vs stack = push_all-under vs [] stack

pub pushed : (all : List Value) (vs stack : List Value) → all ≡ reverse vs ++ stack → all ≡ push_all vs stack
pushed all vs stack is = is ∙ sym (push_all-is vs stack)

-- ---- whether units fit, one summand after another

pub le_less : (u v left : ℕ) → u ≤ left → nat_le (u + v) left ≡ nat_le v (left - u)
le_less u v left h = grind (arith, nat_tests)

pub le_never : (u v left : ℕ) → left < u → nat_le (u + v) left ≡ false
le_never u v left h = grind (arith, nat_tests)

pub room-more : (vs : List Value) (i : ℕ) (d : Value) (left : ℕ) → i < length vs → units_of (get_or vs i d) ≤ left
    → nat_le (units_of_all (drop i vs)) left ≡ nat_le (units_of_all (drop (i + 1) vs)) (left - units_of (get_or vs i d))
room-more vs i d left h fits =
    ap (λ (l : List Value). nat_le (units_of_all l) left) (drop_more vs i d h)
    ∙ le_less (units_of (get_or vs i d)) (units_of_all (drop (i + 1) vs)) left fits

pub room-none : (vs : List Value) (i : ℕ) (d : Value) (left : ℕ) → i < length vs → left < units_of (get_or vs i d)
    → nat_le (units_of_all (drop i vs)) left ≡ false
room-none vs i d left h over =
    ap (λ (l : List Value). nat_le (units_of_all l) left) (drop_more vs i d h)
    ∙ le_never (units_of (get_or vs i d)) (units_of_all (drop (i + 1) vs)) left over

pub ruleset stacks = (pushed, room-more, room-none)
