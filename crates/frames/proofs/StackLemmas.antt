-- what the stack above a unit is after a write
use Rattle.std.proofs.Common.{◌≡◌, ℕ, zero, suc, ◌+◌, ◌-◌, ◌<◌, ◌≤◌, List, [], ◌∷◌, length, slice_set, slice_index_or}
use Rattle.std.proofs.Common.{take, drop, Result, Ok, Err, refl, ap, sym, ◌∙◌, arith, get_or, add-one}
use Rattle.std.proofs.lemmas.Grind.{common_steps}
use Rattle.std.proofs.lemmas.List.{get_or-take, drop-take, take-take}
use Rattle.model.specs.declared.values.Entry.{Entry}
use Rattle.model.specs.declared.values.Entry.TheVariants.{Unset}
use Rattle.model.specs.declared.values.Value.{Value}
use Rattle.model.specs.declared.values.Value.TheVariants.{Int, Long, Ref}
use Rattle.model.specs.declared.turns.Fault.{Fault}
use Rattle.model.specs.declared.turns.Fault.TheVariants.{StackEmpty}
use Rattle.model.specs.Frames.{top_of}
use Rattle.model.specs.Values.{units_of, units_of_all}
use Rattle.values.specs.Slots.{value_in}
use Rattle.frames.specs.Layout.{stack_of}

pub length-stack_of : (units : List Entry) (base n : ℕ) → length (stack_of units base n) ≡ n
length-stack_of units base zero = refl
length-stack_of units base (suc n) = ap suc (length-stack_of units base n)

-- a stack that is not empty
pub stack_of-suc : (units : List Entry) (base n : ℕ) → 0 < n → stack_of units base n
    ≡ value_in (slice_index_or units (base + n - 1) Unset) ∷ stack_of units base (n - 1)
stack_of-suc units base zero h = absurd (omega arith)
stack_of-suc units base (suc n) h = grind arith

-- a write at or above the top changes nothing below
pub stack_of-set : (units : List Entry) (base n i : ℕ) (e : Entry) → base + n ≤ i
    → stack_of (slice_set units i e) base n ≡ stack_of units base n
stack_of-set units base zero i e h = refl
stack_of-set units base (suc n) i e h = grind (arith, common_steps, stack_of-set units base n i e)

-- a write below the stack changes nothing in it
pub stack_of-set_below : (units : List Entry) (base n i : ℕ) (e : Entry) → i < base
    → stack_of (slice_set units i e) base n ≡ stack_of units base n
stack_of-set_below units base zero i e h = refl
stack_of-set_below units base (suc n) i e h = grind (arith, common_steps, stack_of-set_below units base n i e)

pub drop-stack_of : (units : List Entry) (base n k : ℕ) → k ≤ n → drop k (stack_of units base n)
    ≡ stack_of units base (n - k)
drop-stack_of units base n zero h = grind (arith, common_steps)
drop-stack_of units base zero (suc k) h = absurd (omega arith)
drop-stack_of units base (suc n) (suc k) h = grind (arith, common_steps, drop-stack_of units base n k)

pub drop_all-stack_of : (units : List Entry) (base n k : ℕ) → n ≤ k → drop k (stack_of units base n) ≡ []
drop_all-stack_of units base n k h = grind (arith, common_steps, length-stack_of units base n)

-- what is written above the top is the new top
pub stack_of-push : (units : List Entry) (base n : ℕ) (e : Entry) → base + n < length units
    → stack_of (slice_set units (base + n) e) base (n + 1) ≡ value_in e ∷ stack_of units base n
stack_of-push units base n e h = grind (arith, common_steps, stack_of-suc, stack_of-set)

-- a stack depends on its own units alone
pub stack_of-agree : (units units' : List Entry) (m base n : ℕ) → take m units ≡ take m units' → base + n ≤ m
    → stack_of units base n ≡ stack_of units' base n
stack_of-agree units units' m base zero same h = refl
stack_of-agree units units' m base (suc n) same h =
    let rest = stack_of-agree units units' m base n same (omega arith) in
    let here : get_or units (base + n) Unset
    ≡ get_or units' (base + n) Unset = sym (get_or-take m units (base + n) Unset (omega arith))
    ∙ (ap (λ (us : List Entry). get_or us (base + n) Unset) same
    ∙ get_or-take m units' (base + n) Unset (omega arith)) in
    cc

-- so do locals
pub locals-agree : (units units' : List Entry) (m base n : ℕ) → take m units ≡ take m units' → base + n ≤ m
    → take n (drop base units) ≡ take n (drop base units')
locals-agree units units' m base n same h =
    let narrow : take (base + n) units ≡ take (base + n) units' = sym (take-take (base + n) m units h)
    ∙ (ap (λ (us : List Entry). take (base + n) us) same ∙ take-take (base + n) m units' h) in
    sym (drop-take base n units) ∙ (ap (λ (us : List Entry). drop base us) narrow ∙ drop-take base n units')

-- each value takes a unit at least
pub length_le_units : (vs : List Value) → length vs ≤ units_of_all vs
length_le_units [] = omega arith
length_le_units (Int z ∷ vs) = let h = length_le_units vs in omega arith
length_le_units (Long z ∷ vs) = let h = length_le_units vs in omega arith
length_le_units (Ref r ∷ vs) = let h = length_le_units vs in omega arith

-- the value that lies below so many others
pub top_of-drop-stack_of : (units : List Entry) (base n k : ℕ) (e : Entry) → k < n
    → e ≡ get_or units (base + (n - k - 1)) Unset → Ok (value_in e) ≡ top_of (drop k (stack_of units base n))
top_of-drop-stack_of units base n k e h read =
    let place : base + (n - k) - 1 ≡ base + (n - k - 1) = omega arith in
    let found : Entry → Result Value Fault = λ x. Ok (value_in x) in
    rw (
      drop-stack_of units base n k (omega arith),
      stack_of-suc units base (n - k) (omega arith),
      place,
    ) (ap found read)

-- there is no such value
pub top_of-drop_all-stack_of : (units : List Entry) (base n k : ℕ) → n ≤ k → Err StackEmpty
    ≡ top_of (drop k (stack_of units base n))
top_of-drop_all-stack_of units base n k h = rw (drop_all-stack_of units base n k h)

pub units_of_all-take-drop : (vs : List Value) (n : ℕ) → units_of_all (take n vs) + units_of_all (drop n vs)
    ≡ units_of_all vs
units_of_all-take-drop vs zero = omega arith
units_of_all-take-drop [] (suc n) = refl
units_of_all-take-drop (v ∷ vs) (suc n) = let h = units_of_all-take-drop vs n in omega arith

-- one value more
pub units_of_all-take_more : (vs : List Value) (n : ℕ) (v : Value) → top_of (drop n vs) ≡ Ok v
    → units_of_all (take (n + 1) vs) ≡ units_of_all (take n vs) + units_of v
units_of_all-take_more [] zero v h = cc
units_of_all-take_more [] (suc n) v h = cc
units_of_all-take_more (x ∷ vs) zero v h = let e : x ≡ v = cc in rw e (omega arith)
units_of_all-take_more (x ∷ vs) (suc n) v h =
    let rest = units_of_all-take_more vs n v h in
    let e : units_of_all (take (suc n) vs) ≡ units_of_all (take n vs) + units_of v = rw (← add-one) rest in
    rw add-one (omega arith)

pub units_of-le : (v : Value) → units_of v ≤ 2
units_of-le (Int z) = omega arith
units_of-le (Long z) = omega arith
units_of-le (Ref r) = omega arith

pub units_of-pos : (v : Value) → 1 ≤ units_of v
units_of-pos (Int z) = omega arith
units_of-pos (Long z) = omega arith
units_of-pos (Ref r) = omega arith

pub ruleset stacks = (
  length-stack_of,
  stack_of-suc,
  stack_of-set,
  stack_of-set_below,
  drop-stack_of,
  drop_all-stack_of,
  stack_of-push,
)
