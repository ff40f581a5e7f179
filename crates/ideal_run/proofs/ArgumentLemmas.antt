-- arguments in the locals of a method that begins
use Rattle.std.proofs.Common.{◌≡◌, ℕ, ◌+◌, ◌-◌, ◌<◌, ◌≤◌, List, [], ◌∷◌, ◌++◌, length, take, get_or, replicate}
use Rattle.std.proofs.Common.{append-nil, refl, ap, sym, ◌∙◌, arith}
use Rattle.std.proofs.lemmas.List.{take_more, take_all}
use Rattle.model.specs.declared.values.Value.{Value}
use Rattle.model.specs.declared.values.Value.TheVariants.{Int, Long, Ref}
use Rattle.model.specs.declared.values.Entry.{Entry}
use Rattle.model.specs.declared.values.Entry.TheVariants.{Unset, Holds, UpperHalf}
use Rattle.model.specs.Values.{units_of_all}
use Rattle.model.specs.Locals.{argument_entries}

pub argument_entries-append : (vs ws : List Value) → argument_entries (vs ++ ws) ≡ argument_entries vs
    ++ argument_entries ws
argument_entries-append [] ws = refl
argument_entries-append (Int z ∷ vs) ws = ap (λ (es : List Entry). Holds (Int z) ∷ es) (argument_entries-append vs ws)
argument_entries-append (Long z ∷ vs) ws = ap (λ (es : List Entry). Holds (Long z) ∷ UpperHalf ∷ es)
    (argument_entries-append vs ws)
argument_entries-append (Ref r ∷ vs) ws = ap (λ (es : List Entry). Holds (Ref r) ∷ es) (argument_entries-append vs ws)

-- one argument more
pub arguments-next : (vs : List Value) (i : ℕ) (d : Value) (es more : List Entry) → i < length vs
    → es ≡ argument_entries (take i vs) → more ≡ es ++ argument_entries (get_or vs i d ∷ [])
    → more ≡ argument_entries (take (i + 1) vs)
arguments-next vs i d es more within so_far is =
    is ∙ (ap (λ (l : List Entry). l ++ argument_entries (get_or vs i d ∷ [])) so_far
    ∙ (sym (argument_entries-append (take i vs) (get_or vs i d ∷ []))
    ∙ sym (ap argument_entries (take_more vs i d within))))

-- an argument takes as many entries as units
pub length-arguments : (vs : List Value) → length (argument_entries vs) ≡ units_of_all vs
length-arguments [] = refl
length-arguments (Int z ∷ vs) = let h = length-arguments vs in omega arith
length-arguments (Long z ∷ vs) = let h = length-arguments vs in omega arith
length-arguments (Ref r ∷ vs) = let h = length-arguments vs in omega arith

replicated : (es : List Entry) (m n : ℕ) → m ≡ n → es ++ replicate m Unset ≡ es ++ replicate n Unset
replicated es m n e = ap (λ (k : ℕ). es ++ replicate k Unset) e

-- there are more locals
pub filled : (vs : List Value) (es all : List Entry) (n : ℕ) → es ≡ argument_entries vs → length es < n
    → all ≡ take n es ++ replicate (n - length es) Unset → all ≡ argument_entries vs
    ++ replicate (n - units_of_all vs) Unset
filled vs es all n is less filled_up =
    let size : length es ≡ units_of_all vs = ap length is ∙ length-arguments vs in
    filled_up ∙ (ap (λ (l : List Entry). l ++ replicate (n - length es) Unset) (take_all n es (omega arith) ∙ is)
    ∙ ap (λ (k : ℕ). argument_entries vs ++ replicate (n - k) Unset) size)

-- there are no more
pub full : (vs : List Value) (es : List Entry) (n : ℕ) → es ≡ argument_entries vs → n ≤ length es
    → es ≡ argument_entries vs ++ replicate (n - units_of_all vs) Unset
full vs es n is most =
    let size : length es ≡ units_of_all vs = ap length is ∙ length-arguments vs in
    let none : n - units_of_all vs ≡ 0 = omega arith in
    is ∙ (sym (append-nil (argument_entries vs)) ∙ sym (replicated (argument_entries vs) (n - units_of_all vs) 0 none))

pub ruleset arguments = (arguments-next, length-arguments, filled, full)
