-- the running activation beside those below it
use Rattle.std.proofs.Common.{◌≡◌, ℕ, zero, suc, ◌+◌, ◌-◌, ◌<◌, ◌≤◌, List, [], ◌∷◌, ◌++◌, length, take, slice_get, Some}
use Rattle.std.proofs.Common.{refl, ap, sym, ◌∙◌, arith, get_or}
use Rattle.std.proofs.lemmas.List.{length-append, length-take-le, take_at, get_or_append_left, get_or-take}
use Rattle.std.proofs.Math.Seq.{get_or-append_seam}
use Rattle.std.proofs.lemmas.Option.{slice_get_read}
use Rattle.frames.specs.declared.activations.Activation.{Activation}
use Rattle.frames.specs.Activations.{all_of, last_of, with_last, no_activation, AreFew}
use Rattle.frames.proofs.ListLemmas.{set_last}

length-pushed : (below : List Activation) (a : Activation) → length (below ++ a ∷ []) ≡ suc (length below)
length-pushed below a = omega (arith, length-append below (a ∷ []))

-- how many there are
pub length-all_of : (below : List Activation) (a : Activation) (count capacity : ℕ) → AreFew below count capacity
    → length (all_of below a count) ≡ count
length-all_of below a zero capacity few = refl
length-all_of below a (suc n) capacity few =
    let below_are = few.below_are in
    let first = length-take-le n below (omega arith) in
    let more = length-pushed (take n below) a in
    omega arith

-- the last one
pub last_is : (below : List Activation) (a : Activation) (count : ℕ) → 0 < length (all_of below a count)
    → a ≡ last_of (all_of below a count)
last_is below a zero some = absurd (omega arith)
last_is below a (suc n) some =
    let place : length (take n below ++ a ∷ []) - 1
    ≡ length (take n below) = let more = length-pushed (take n below) a in omega arith in
    sym (ap (λ (k : ℕ). get_or (take n below ++ a ∷ []) k no_activation) place
    ∙ get_or-append_seam (take n below) a [] no_activation)

-- the registers are those of the last one
pub running_is_last : (below : List Activation) (a : Activation) (count : ℕ) (acts : List Activation)
    → all_of below a count ≡ acts → 0 < length acts → a ≡ last_of acts
running_is_last below a count acts view some =
    let there : 0 < length (all_of below a count) = omega (arith, ap length view, some) in
    last_is below a count there ∙ ap last_of view

pub last_put : (below : List Activation) (a a' : Activation) (count : ℕ) → 0 < length (all_of below a count)
    → all_of below a' count ≡ with_last (all_of below a count) a'
last_put below a a' zero some = absurd (omega arith)
last_put below a a' (suc n) some =
    let first = take n below in
    let place : length first ≡ length (first ++ a ∷ []) - 1 = let more = length-pushed first a in omega arith in
    let callers : take (length (first ++ a ∷ []) - 1) (first ++ a ∷ [])
    ≡ first = take_at first (a ∷ []) (length (first ++ a ∷ []) - 1) place in
    sym (set_last (first ++ a ∷ []) a' some ∙ ap (λ (l : List Activation). l ++ a' ∷ []) callers)

-- a change of the last one
pub last_changed : (change : Activation → Activation) (below : List Activation) (a : Activation) (count : ℕ)
    (acts : List Activation) → all_of below a count ≡ acts → 0 < length acts → all_of below (change a) count
    ≡ with_last acts (change (last_of acts))
last_changed change below a count acts view some =
    let there : 0 < length (all_of below a count) = omega (arith, ap length view) in
    let last : change a ≡ change (last_of (all_of below a count)) = ap change (last_is below a count there) in
    last_put below a (change a) count there ∙ (ap (λ (x : Activation). with_last (all_of below a count) x) last
    ∙ ap (λ (l : List Activation). with_last l (change (last_of l))) view)

-- one more after the last one, which changes
pub pushed_over : (change : Activation → Activation) (below below' : List Activation) (a b : Activation) (count : ℕ)
    (acts : List Activation) → all_of below a count ≡ acts → 0 < length acts
    → take (count - 1 + 1) below' ≡ take (count - 1) below ++ change a ∷ []
    → all_of below' b (count + 1) ≡ with_last acts (change (last_of acts)) ++ b ∷ []
pushed_over change below below' a b zero acts view some put = absurd (omega (arith, ap length view, some))
pushed_over change below below' a b (suc n) acts view some put =
    let more : suc n + 1 ≡ suc (suc n) = omega arith in
    let place : suc n - 1 + 1 ≡ suc n = omega arith in
    let before : suc n - 1 ≡ n = omega arith in
    let stored : take (suc n) below' ≡ take n below ++ change a ∷ [] = ap (λ k. take k below') (sym place)
    ∙ (put ∙ ap (λ k. take k below ++ change a ∷ []) before) in
    ap (λ k. all_of below' b k) more
    ∙ ap (λ (l : List Activation). l ++ b ∷ []) (stored ∙ last_changed change below a (suc n) acts view some)

-- the one at a place
pub below_at : (below : List Activation) (a : Activation) (count capacity place : ℕ) (acts : List Activation)
    (found : Activation) → AreFew below count capacity
    → all_of below a count ≡ acts → place + 1 < count → found ≡ get_or below place found → Some found
    ≡ slice_get acts place
below_at below a zero capacity place acts found few view there read = absurd (omega arith)
below_at below a (suc n) capacity place acts found few view there read =
    let below_are = few.below_are in
    let first : length (take n below) ≡ n = length-take-le n below (omega arith) in
    let total : suc n ≡ length (all_of below a (suc n)) = sym (length-all_of below a (suc n) capacity few) in
    let same : get_or (take n below ++ a ∷ []) place found ≡ get_or below place found =
    get_or_append_left (take n below) (a ∷ []) found place (omega arith) ∙ get_or-take n below place found (omega arith)
    in
    sym (slice_get_read (all_of below a (suc n)) (suc n) place found total (omega arith) (read ∙ sym same))
    ∙ ap (λ (l : List Activation). slice_get l place) view

pub running_at : (below : List Activation) (a : Activation) (count capacity place : ℕ) (acts : List Activation)
    → AreFew below count capacity
    → all_of below a count ≡ acts → place < length acts → count ≤ place + 1 → Some a ≡ slice_get acts place
running_at below a zero capacity place acts few view there past = absurd (omega (arith, ap length view))
running_at below a (suc n) capacity place acts few view there past =
    let below_are = few.below_are in
    let first : length (take n below) ≡ n = length-take-le n below (omega arith) in
    let total : suc n ≡ length (all_of below a (suc n)) = sym (length-all_of below a (suc n) capacity few) in
    let is : place ≡ length (take n below) = omega (arith, ap length view, total) in
    let same : get_or (take n below ++ a ∷ []) place a ≡ a = ap (λ (k : ℕ). get_or (take n below ++ a ∷ []) k a) is
    ∙ get_or-append_seam (take n below) a [] a in
    sym (slice_get_read (all_of below a (suc n)) (suc n) place a total (omega (arith, ap length view, total))
    (sym same)) ∙ ap (λ (l : List Activation). slice_get l place) view

-- how many there may be
pub are_few : (below : List Activation) (a : Activation) (count capacity : ℕ) (acts : List Activation)
    → AreFew below count capacity → all_of below a count ≡ acts → length acts ≡ count
are_few below a count capacity acts few view = sym (ap length view) ∙ length-all_of below a count capacity few
