-- Threads by their numbers, in cyclic order.
use Rattle.std.proofs.Common.{◌≡◌, ◌⊎◌, inl, inr, ◌<◌, ◌≤◌, ◌+◌, ◌-◌, arith, min, ℕ, zero, suc, List, [], ◌∷◌, ◌++◌}
use Rattle.std.proofs.Common.{length, take, drop, Bool, true, false, ◌||◌, Some, None, is_some, refl, ap, sym, ◌∙◌}
use Rattle.std.specs.Prelude.{nat_le, slice_get}
use Rattle.std.proofs.lemmas.Bool.{leb-false, leb-true}
use Rattle.std.specs.List.{find, list_any}
use Rattle.model.specs.Observers.{cyclic_from}
use Rattle.model.specs.Ready.{numbers_from}
use Rattle.model.specs.Worlds.{Thread, lives}
use Rattle.instructions.specs.Threads.{numbers_between, numbers_up}

-- ---- numbers

pub numbers-of : (n : ℕ) (threads : List Thread) → numbers_from n threads ≡ numbers_up n (length threads)
numbers-of n [] = refl
numbers-of n (t ∷ ts) = ap (λ ns. n ∷ ns) (numbers-of (n + 1) ts)

take-up : (start n count : ℕ) → start ≤ count → take start (numbers_up n count) ≡ numbers_up n start
take-up zero n zero few = refl
take-up zero n (suc count) few = refl
take-up (suc start) n zero few = absurd (omega (arith, few))
take-up (suc start) n (suc count) few = ap (λ ns. n ∷ ns) (take-up start (n + 1) count (omega (arith, few)))

drop-up : (start n count : ℕ) → drop start (numbers_up n count) ≡ numbers_up (n + start) (count - start)
drop-up zero n count =
    let same : n ≡ n + 0 = omega arith in
    let all : count ≡ count - 0 = omega arith in
    ap (λ m. numbers_up m count) same ∙ ap (numbers_up (n + 0)) all
drop-up (suc start) n zero =
    let none : 0 ≡ 0 - suc start = omega arith in
    ap (numbers_up (n + suc start)) none
drop-up (suc start) n (suc count) =
    let same : n + 1 + start ≡ n + suc start = omega arith in
    let left : count - start ≡ suc count - suc start = omega arith in
    drop-up start (n + 1) count ∙ ap (λ m. numbers_up m (count - start)) same ∙ ap (numbers_up (n + suc start)) left

-- past the last one
take-past : (start n count : ℕ) → count ≤ start → take start (numbers_up n count) ≡ numbers_up n count
take-past start n zero few = by start
  where
    by : (start : ℕ) → take start (let none : List ℕ = [] in none) ≡ []
    by zero = refl
    by (suc start) = refl
take-past zero n (suc count) few = absurd (omega (arith, few))
take-past (suc start) n (suc count) few = ap (λ ns. n ∷ ns) (take-past start (n + 1) count (omega (arith, few)))

-- in cyclic order, from where the last one is at most
pub cyclic-up : (start count within : ℕ) → within ≤ count → (start ≡ within) ⊎ ((count ≤ start) × (within ≡ count))
    → cyclic_from start (numbers_up 0 count) ≡ numbers_between within count ++ numbers_between 0 within
cyclic-up start count within few (inl same) =
    let from : 0 + within ≡ within = omega arith in
    let all : within ≡ within - 0 = omega arith in
    rw same (ap (λ ns. ns ++ take within (numbers_up 0 count)) (drop-up within 0 count
    ∙ ap (λ n. numbers_up n (count - within)) from)
    ∙ ap (λ ns. numbers_up within (count - within) ++ ns) (take-up within 0 count few ∙ ap (numbers_up 0) all))
cyclic-up start count within few (inr past) =
    let none : count - start ≡ 0 = omega (arith, past.0) in
    let also : 0 ≡ count - within = omega (arith, past.1) in
    let all : count ≡ within - 0 = omega (arith, past.1) in
    ap (λ ns. ns ++ take start (numbers_up 0 count)) (drop-up start 0 count ∙ ap (numbers_up (0 + start)) none)
    ∙ take-past start 0 count past.0 ∙ ap (numbers_up 0) all
    ∙ ap (λ n. numbers_up within n ++ numbers_between 0 within) also

-- ---- what is found

pub found-next : (p : ℕ → Bool) (from to : ℕ) → from < to → p from ≡ true → Some from ≡ find p (numbers_between from to)
found-next p from to within e =
    let left : to - from ≡ suc (to - (from + 1)) = omega (arith, within) in
    sym (ap (λ n. find p (numbers_up from n)) left ∙ rw e refl)

pub passed-next : (p : ℕ → Bool) (from to : ℕ) → from < to → p from ≡ false → find p (numbers_between from to)
    ≡ find p (numbers_between (from + 1) to)
passed-next p from to within e =
    let left : to - from ≡ suc (to - (from + 1)) = omega (arith, within) in
    ap (λ n. find p (numbers_up from n)) left ∙ rw e refl

pub none-left : (p : ℕ → Bool) (from to : ℕ) → to ≤ from → None ≡ find p (numbers_between from to)
none-left p from to over =
    let left : to - from ≡ 0 = omega (arith, over) in
    sym (ap (λ n. find p (numbers_up from n)) left)

found-first : (p : ℕ → Bool) (xs ys : List ℕ) (n : ℕ) → find p xs ≡ Some n → find p (xs ++ ys) ≡ Some n
found-first p [] ys n e = cc
found-first p (x ∷ xs) ys n e = by (found-first p xs ys n) (p x) refl
  where
    by : (find p xs ≡ Some n → find p (xs ++ ys) ≡ Some n) → (b : Bool) → p x ≡ b → find p (x ∷ xs ++ ys) ≡ Some n
    by more true is = let here : find p (x ∷ xs) ≡ Some x = rw is refl in rw is (sym here ∙ e)
    by more false is = let there : find p (x ∷ xs) ≡ find p xs = rw is refl in rw is (more (sym there ∙ e))

found-second : (p : ℕ → Bool) (xs ys : List ℕ) → find p xs ≡ None → find p (xs ++ ys) ≡ find p ys
found-second p [] ys e = refl
found-second p (x ∷ xs) ys e = by (found-second p xs ys) (p x) refl
  where
    by : (find p xs ≡ None → find p (xs ++ ys) ≡ find p ys) → (b : Bool) → p x ≡ b → find p (x ∷ xs ++ ys) ≡ find p ys
    by more true is = let here : find p (x ∷ xs) ≡ Some x = rw is refl in let never : Some x ≡ None = sym here ∙ e in cc
    by more false is = let there : find p (x ∷ xs) ≡ find p xs = rw is refl in rw is (more (sym there ∙ e))

module _ (p : ℕ → Bool) (start within : ℕ) (threads : List Thread) (few : within ≤ length threads)
    (is : (start ≡ within) ⊎ ((length threads ≤ start) × (within ≡ length threads))) where
  order : cyclic_from start (numbers_from 0 threads) ≡ numbers_between within (length threads)
      ++ numbers_between 0 within
  order = ap (cyclic_from start) (numbers-of 0 threads) ∙ cyclic-up start (length threads) within few is

  pub cyclic-first : (n : ℕ) → Some n ≡ find p (numbers_between within (length threads))
      → Some n ≡ find p (cyclic_from start (numbers_from 0 threads))
  cyclic-first n found = sym (ap (find p) order ∙ found-first p _ _ n (sym found))

  pub cyclic-second : None ≡ find p (numbers_between within (length threads))
      → find p (numbers_between 0 within) ≡ find p (cyclic_from start (numbers_from 0 threads))
  cyclic-second none = sym (ap (find p) order ∙ found-second p _ _ (sym none))

-- ---- whether there is one

pub some-found : (p : ℕ → Bool) (xs : List ℕ) → is_some (find p xs) ≡ list_any p xs
some-found p [] = refl
some-found p (x ∷ xs) = by (some-found p xs) (p x) refl
  where
    by : is_some (find p xs) ≡ list_any p xs → (b : Bool) → p x ≡ b → is_some (find p (x ∷ xs)) ≡ list_any p (x ∷ xs)
    by more true is = rw is refl
    by more false is = rw is more

pub any-next : (p : ℕ → Bool) (from to : ℕ) → from < to → p from ≡ false → list_any p (numbers_between from to)
    ≡ list_any p (numbers_between (from + 1) to)
any-next p from to within e =
    let left : to - from ≡ suc (to - (from + 1)) = omega (arith, within) in
    ap (λ n. list_any p (numbers_up from n)) left ∙ rw e refl

pub any-here : (p : ℕ → Bool) (from to : ℕ) → from < to → p from ≡ true → true ≡ list_any p (numbers_between from to)
any-here p from to within e =
    let left : to - from ≡ suc (to - (from + 1)) = omega (arith, within) in
    sym (ap (λ n. list_any p (numbers_up from n)) left ∙ rw e refl)

pub any-none : (p : ℕ → Bool) (from to : ℕ) → to ≤ from → false ≡ list_any p (numbers_between from to)
any-none p from to over =
    let left : to - from ≡ 0 = omega (arith, over) in
    sym (ap (λ n. list_any p (numbers_up from n)) left)

-- a thread lives, by its number among those of a list after others
any-following : (q : Thread → Bool) (p : ℕ → Bool) (n : ℕ) (threads : List Thread)
    → ((k : ℕ) (t : Thread) → slice_get threads k ≡ Some t → p (n + k) ≡ q t) → list_any q threads
    ≡ list_any p (numbers_from n threads)
any-following q p n [] same = refl
any-following q p n (t ∷ ts) same =
    let here : n + 0 ≡ n = omega arith in
    let first : q t ≡ p n = sym (same 0 t refl) ∙ ap p here in
    rw first (ap (λ b. p n || b)
    (any-following q p (n + 1) ts (λ k u at. let there : n + 1 + k ≡ n + suc k = omega arith in ap p there
    ∙ same (suc k) u at)))

pub some-lives : (threads : List Thread) → list_any (λ t. lives (Some t)) threads
    ≡ list_any (λ n. lives (slice_get threads n)) (numbers_from 0 threads)
some-lives threads = any-following (λ t. lives (Some t)) (λ n. lives (slice_get threads n)) 0 threads
    (λ k t at. let here : 0 + k ≡ k = omega arith in rw here (ap lives at))

-- ---- the lesser of two

pub least-either : (a b w : ℕ) → w ≡ min a b → ((w ≤ a) × (w ≤ b)) × ((w ≡ a) ⊎ (w ≡ b))
least-either a b w is = ((omega (arith, is), omega (arith, is)), by (nat_le a b) refl)
  where
    by : (c : Bool) → nat_le a b ≡ c → (w ≡ a) ⊎ (w ≡ b)
    by true e = let less : a ≤ b = leb-true a b e in inl (omega (arith, is, less))
    by false e = let more : b < a = leb-false a b e in inr (omega (arith, is, more))
