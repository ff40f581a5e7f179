use Rattle.std.proofs.Common.{◌≡◌, ℕ, zero, suc, ◌+◌, ◌<◌, List, [], ◌∷◌, length, replicate, set, slice_get}
use Rattle.std.proofs.Common.{Some, refl, sym, ◌∙◌, ap, arith}
use Rattle.model.specs.Worlds.{World}
use Rattle.join.proofs.Lists.{get-set_same, get-set_other}
use Rattle.join.specs.OnCells.{on_cells}
use Rattle.collector.specs.Reaching.{IsWalk, Marking, marked}
use Rattle.collector.proofs.MarksTell.{walked}
use Rattle.exploration.specs.CanonicalForms.{AllMade, taken}
use Rattle.exploration.specs.Representation.{Represents}
use Rattle.exploration.proofs.CanonicalForms.{canonical_represents}
use Rattle.exploring.specs.Canonical.{canonical, names_of, naming_by, numbered, order_of}

-- a canonical form represents its world: each birth of the walk has its place as its number

get_below : (xs : List ℕ) (n x : ℕ) → slice_get xs n ≡ Some x → n < length xs
get_below [] n x e = absurd (cc)
get_below (y ∷ ys) zero x e = omega arith
get_below (y ∷ ys) (suc n) x e = (let l = get_below ys n x e in omega (arith, l))

there : (xs : List ℕ) (n : ℕ) → n < length xs → (x : ℕ) × (slice_get xs n ≡ Some x)
there [] n l = absurd (omega (arith, l))
there (y ∷ ys) zero l = (y, refl)
there (y ∷ ys) (suc n) l = there ys n (omega (arith, l))

size_set : (xs : List ℕ) (n x : ℕ) → length (set xs n x) ≡ length xs
size_set [] n x = refl
size_set (y ∷ ys) zero x = refl
size_set (y ∷ ys) (suc n) x = ap suc (size_set ys n x)

size_replicate : (n : ℕ) → length {A = ℕ} (replicate n 0) ≡ n
size_replicate zero = refl
size_replicate (suc n) = ap suc (size_replicate n)

-- what isn't in the list keeps its number
kept : (order names : List ℕ) (k b : ℕ) → ((j : ℕ) → slice_get order j ≡ Some b → ⊥)
    → slice_get (numbered names k order) b ≡ slice_get names b
kept [] names k b none = refl
kept (x ∷ order) names k b none =
    kept order (set names x (k + 1)) (k + 1) b (λ j e. none (suc j) e)
    ∙ get-set_other names b x (k + 1) (λ e. none 0 (ap (λ (y : ℕ). Some y) (sym e)))

abbrev Once : List ℕ → Type 0
Once order = (i j b : ℕ) → slice_get order i ≡ Some b → slice_get order j ≡ Some b → i ≡ j

number_of : (order names : List ℕ) (k j b : ℕ) → Once order
    → ((i x : ℕ) → slice_get order i ≡ Some x → x < length names) → slice_get order j ≡ Some b
    → slice_get (numbered names k order) b ≡ Some (k + suc j)
number_of [] names k j b once all e = absurd (cc)
number_of (x ∷ order) names k zero b once all e =
    let same : x ≡ b = cc in
    let first : slice_get (x ∷ order) 0 ≡ Some b = e in
    let held = there names x (all 0 x refl) in
    kept order (set names x (k + 1)) (k + 1) b (λ i f. (let q = once 0 (suc i) b first f in absurd (omega (arith, q))))
    ∙ ap (slice_get (set names x (k + 1))) (sym same)
    ∙ get-set_same names x (k + 1) held.0 held.1
number_of (x ∷ order) names k (suc j) b once all e =
    let size = size_set names x (k + 1) in
    let rest = number_of order (set names x (k + 1)) (k + 1) j b
    (λ i n y f g. (let q = once (suc i) (suc n) y f g in omega (arith, q)))
    (λ i y f. (let l = all (suc i) y f in omega (arith, l, size))) e in
    let sum : k + 1 + suc j ≡ k + suc (suc j) = omega arith in
    rest ∙ ap (λ (n : ℕ). Some n) sum

read : (names : List ℕ) (b n : ℕ) → slice_get names b ≡ Some n → naming_by names b ≡ n
read [] b n e = absurd (cc)
read (x ∷ names) zero n e = cc
read (x ∷ names) (suc b) n e = read names b n e

pub is_represented : (w : World) → AllMade w → Represents (canonical w) w
is_represented w made =
    let walk : IsWalk w (order_of w) = walked w (length w.objects) (omega arith) made in
    let size = size_replicate (length w.objects) in
    canonical_represents (naming_by (names_of w)) (order_of w) w (record {
      numbered = λ k b e. (
          let sum : 0 + suc k ≡ suc k = omega arith in
          let number = number_of (order_of w) (replicate (length w.objects) 0) 0 k b walk.once
          (λ i x f. (let l = made x (walk.only i x f) in omega (arith, l, size))) e in
          read (names_of w) b (suc k) (number ∙ ap (λ (n : ℕ). Some n) sum)
          );
      complete = walk.complete;
      only = walk.only;
      memory_error = walk.memory_error;
      stack_error = walk.stack_error;
    }) made

-- what is made of a marking and of numbers is the canonical form
pub formed_is : (w made : World) (count : ℕ) (m : Marking) (names : List ℕ) → count ≡ length w.objects
    → m ≡ marked w count → names ≡ numbered (replicate count 0) 0 m.list
    → made ≡ on_cells (naming_by names) (taken m.list) w → made ≡ canonical w
formed_is w made count m names a b c d = rw (d, c, b, a) refl
