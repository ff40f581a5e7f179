use Rattle.std.proofs.Common.{◌≡◌, ℕ, zero, suc, ◌+◌, ◌<◌, ◌≤◌, Bool, true, false, List, [], ◌∷◌, ◌++◌, length}
use Rattle.std.proofs.Common.{replicate, nat_lt, nat_eq, refl, sym, ◌∙◌, ap, arith, append_assoc, ltb-true, ltb-false}
use Rattle.model.specs.declared.colours.Cell.{Cell}
use Rattle.model.specs.declared.colours.Cell.TheVariants.{Free}
use Rattle.model.specs.declared.colours.Phase.TheVariants.{Idle}
use Rattle.model.specs.declared.journals.HeapShape.{HeapShape}
use Rattle.model.specs.Accounts.{numbers_up, empty_account}
use Rattle.model.specs.Limits.{ShapeFits}
use Rattle.circular_buffer.specs.Buffer.{Buffer, buffer}
use Rattle.colours.specs.declared.free_lists.FreeLists.{FreeLists}
use Rattle.colours.specs.FreeLists.{all_free}
use Rattle.colours.specs.Sound.{free_in, total, free_at, one_if, times, Sound, AreKept}
use Rattle.colours.proofs.Counting.{one_if-other}

-- rising numbers, and the account in which all cells are free

-- the next number goes to the end
pub number_pushed : (items : List ℕ) (first n m : ℕ) → n ≡ suc m → (items ++ first ∷ []) ++ numbers_up (first + 1) m
    ≡ items ++ numbers_up first n
number_pushed items first n m e = rw e (append_assoc items (first ∷ []) (numbers_up (first + 1) m))

pub length-numbers : (n first : ℕ) → length (numbers_up first n) ≡ n
length-numbers zero first = refl
length-numbers (suc n) first = ap suc (length-numbers n (first + 1))

times-below : (n first c : ℕ) → c < first → times c (numbers_up first n) ≡ 0
times-below zero first c l = refl
times-below (suc n) first c l =
    let here = one_if-other c first (λ e. omega arith) in
    let rest = times-below n (first + 1) c (omega arith) in
    omega (arith, here, rest)

times-above : (n first c : ℕ) → first + n ≤ c → times c (numbers_up first n) ≡ 0
times-above zero first c l = refl
times-above (suc n) first c l =
    let here = one_if-other c first (λ e. omega arith) in
    let rest = times-above n (first + 1) c (omega arith) in
    omega (arith, here, rest)

one_if-most : (c d : ℕ) → one_if c d ≤ 1
one_if-most c d = go (nat_eq c d) refl
  where
    go : (same : Bool) → nat_eq c d ≡ same → one_if c d ≤ 1
    go true e = rw e (omega arith)
    go false e = rw e (omega arith)

times-once : (n first c : ℕ) → times c (numbers_up first n) ≤ 1
times-once zero first c = omega arith
times-once (suc n) first c = go (nat_lt first c) refl (times-once n (first + 1) c)
  where
    go : (above : Bool) → nat_lt first c ≡ above → times c (numbers_up (first + 1) n) ≤ 1
        → one_if c first + times c (numbers_up (first + 1) n) ≤ 1
    go true e rest =
        let l = ltb-true first c e in
        let here = one_if-other c first (λ f. omega arith) in
        omega (arith, here, rest)
    go false e rest =
        let l = ltb-false first c e in
        let here = one_if-most c first in
        let none = times-below n (first + 1) c (omega arith) in
        omega (arith, here, none)

-- ---- all cells are free

total-free : (n : ℕ) → total free_in (replicate n Free) ≡ n
total-free zero = refl
total-free (suc n) = let k = total-free n in omega (arith, k)

length-free : (n : ℕ) → length (replicate n Free) ≡ n
length-free zero = refl
length-free (suc n) = ap suc (length-free n)

free_at-free : (n c : ℕ) → c < n → free_at (replicate n Free) c ≡ 1
free_at-free zero c l = absurd (omega arith)
free_at-free (suc n) zero l = refl
free_at-free (suc n) (suc c) l = free_at-free n c (omega arith)

pub empty_is_sound : (shape : HeapShape) → ShapeFits shape.small shape.medium shape.large → Sound (empty_account shape)
empty_is_sound shape fits =
    let count = shape.small + shape.medium + shape.large in
    let few = fits.1 in
    let cells = length-free count in
    let free = total-free count in
    let s = length-numbers shape.small 0 in
    let m = length-numbers shape.medium shape.small in
    let l = length-numbers shape.large (shape.small + shape.medium) in
    record {
      few = omega (arith, few, cells);
      grey = omega arith;
      free = omega (arith, free, s, m, l);
      listed = λ c. go c (nat_lt c shape.small) (nat_lt c (shape.small + shape.medium)) (nat_lt c count) refl refl refl;
    }
  where
    Listed : ℕ → Type 0
    Listed c = times c (numbers_up 0 shape.small) + times c (numbers_up shape.small shape.medium) + times c
        (numbers_up (shape.small + shape.medium) shape.large) ≤ free_at
        (replicate (shape.small + shape.medium + shape.large) Free) c

    go : (c : ℕ) (small medium large : Bool) → nat_lt c shape.small ≡ small → nat_lt c (shape.small + shape.medium)
        ≡ medium → nat_lt c (shape.small + shape.medium + shape.large) ≡ large → Listed c
    go c true medium large e f g =
        let u = ltb-true _ _ e in
        let one = times-once shape.small 0 c in
        let m = times-below shape.medium shape.small c u in
        let l = times-below shape.large (shape.small + shape.medium) c (omega arith) in
        let is = free_at-free (shape.small + shape.medium + shape.large) c (omega arith) in
        omega (arith, one, m, l, is)
    go c false true large e f g =
        let v = ltb-false _ _ e in
        let u = ltb-true _ _ f in
        let s = times-above shape.small 0 c (omega arith) in
        let one = times-once shape.medium shape.small c in
        let l = times-below shape.large (shape.small + shape.medium) c u in
        let is = free_at-free (shape.small + shape.medium + shape.large) c (omega arith) in
        omega (arith, s, one, l, is)
    go c false false true e f g =
        let v = ltb-false _ _ f in
        let u = ltb-true _ _ g in
        let s = times-above shape.small 0 c (omega arith) in
        let m = times-above shape.medium shape.small c v in
        let one = times-once shape.large (shape.small + shape.medium) c in
        let is = free_at-free (shape.small + shape.medium + shape.large) c u in
        omega (arith, s, m, one, is)
    go c false false false e f g =
        let v = ltb-false _ _ g in
        let s = times-above shape.small 0 c (omega arith) in
        let m = times-above shape.medium shape.small c (omega arith) in
        let l = times-above shape.large (shape.small + shape.medium) c v in
        omega (arith, s, m, l)

-- the parts of which the code makes it
pub opens : (shape : HeapShape) (cells : List Cell) (free : FreeLists) (queue : Buffer ℕ)
    → let n = shape.small + shape.medium + shape.large in ShapeFits shape.small shape.medium shape.large
    → cells ≡ replicate n Free → free ≡ all_free shape n → queue ≡ buffer [] n → AreKept cells free queue Idle
opens shape cells free queue fits is lists grey =
    let n = shape.small + shape.medium + shape.large in
    let same : n ≡ length cells = sym (ap length is ∙ length-free n) in (
      rw (is, lists, grey) (empty_is_sound shape fits),
      record {
        small = ap (λ (f : FreeLists). f.small.capacity) lists ∙ same;
        medium = ap (λ (f : FreeLists). f.medium.capacity) lists ∙ same;
        large = ap (λ (f : FreeLists). f.large.capacity) lists ∙ same;
        grey = ap (λ (q : Buffer ℕ). q.capacity) grey ∙ same;
      },
    )
