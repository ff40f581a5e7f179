use Rattle.std.proofs.Common.{◌≡◌, ℕ, zero, suc, ◌≤◌, ◌/◌, ◌%◌, ℤ, pos, negsuc, List, [], ◌∷◌, ◌++◌, length, map, slice_get, get_or}
use Rattle.std.proofs.Common.{nat_lt, Bool, true, false, if◌then◌else◌, Option, Some, None, refl, sym, ◌∙◌, ap, arith}
use Rattle.std.specs.List.{flat_map}
use Rattle.std.specs.Str.{bytes_eq}
use Rattle.std.proofs.lemmas.List.{append_assoc, length-map}
use Rattle.std.proofs.lemmas.List.Quantifiers.{position-Some}
use Rattle.std.proofs.lemmas.Slice.Eq.{bytes_eq-Decides}
use Rattle.model.specs.declared.turns.ClassState.TheVariants.{Unused, Running, Done, Failed}
use Rattle.model.specs.declared.turns.Fault.{Fault}
use Rattle.model.specs.declared.turns.Fault.TheVariants.{StackEmpty, StackFull, WrongKind, WrongLocal, NoInstruction}
use Rattle.model.specs.declared.turns.Fault.TheVariants.{WrongClass, WrongReturn, ThreadLimit, NoMethod, MonitorLimit}
use Rattle.model.specs.declared.turns.Mark.TheVariants.{Unmarked, Waiting, Failing}
use Rattle.model.specs.declared.values.Entry.TheVariants.{Unset, Holds, UpperHalf}
use Rattle.model.specs.declared.values.Value.{Value}
use Rattle.model.specs.declared.values.Value.TheVariants.{Int, Long, Ref}
use Rattle.model.specs.declared.turns.Status.{Status}
use Rattle.model.specs.declared.turns.Status.TheVariants.{Running as RunningStatus, Finished, Stuck, Faulted}
use Rattle.model.specs.Faults.{fault_number}
use Rattle.exploration.specs.declared.ends.End.TheVariants.{Lives, Ended as HasEnded}
use Rattle.model.specs.Worlds.{World}
use Rattle.model.specs.Worlds.Thread.{Live, Ended}
use Rattle.model.specs.Worlds.Contents.{Instance, Array}
use Rattle.exploring.specs.Keys.{value, entry, mark, frame, state, fault, bytes, name_at, place_of, name, field, contents}
use Rattle.exploring.specs.Keys.{object, thread, head, rest, pieces, end, status, outcome, PiecesTell, OutcomeKeysTell}
use Rattle.exploring.specs.Keys.{two, four, eight, large_number, wide_number, number, folded, integer, perhaps, each, IsReadBack}

-- a row of bytes is read back, part by part

cons_back : (a b : ℕ) (s t : List ℕ) → a ∷ s ≡ b ∷ t → (a ≡ b) × (s ≡ t)
cons_back a b s t e = (cc, cc)

-- two rows that tell the same of what they are made of, whatever comes after them
record Tells (p q : List ℕ) (P : Type 0) : Type 0 where
  told : (s t : List ℕ) → p ++ s ≡ q ++ t → P × (s ≡ t)

of_part : {A : Type 0} (part : A → List ℕ) → IsReadBack part → (x y : A) → Tells (part x) (part y) (x ≡ y)
of_part part back x y = record { told = back x y }

and_then : {P Q : Type 0} (a b c d : List ℕ) → Tells a b P → Tells c d Q → Tells (a ++ c) (b ++ d) (P × Q)
and_then a b c d f g = record {
  told = λ s t e. (
      let one = f.told (c ++ s) (d ++ t) (sym (append_assoc a c s) ∙ e ∙ append_assoc b d t) in
      let other = g.told s t one.1 in
      ((one.0, other.0), other.1)
      );
}

-- ---- numbers

pub two_back : IsReadBack two
two_back n m s t e =
    let low : n % 256 ≡ m % 256 = cc in
    let high : n / 256 ≡ m / 256 = cc in
    (omega (arith, low, high), cc)

pub four_back : IsReadBack four
four_back n m s t e =
    let k = (and_then _ _ _ _ (of_part two two_back (n % 65536) (m % 65536))
    (of_part two two_back (n / 65536) (m / 65536))).told s t e in
    let low = k.0.0 in
    let high = k.0.1 in
    (omega (arith, low, high), k.1)

pub eight_back : IsReadBack eight
eight_back n m s t e =
    let k = (and_then _ _ _ _ (of_part four four_back (n % 4294967296) (m % 4294967296))
    (of_part four four_back (n / 4294967296) (m / 4294967296))).told s t e in
    let low = k.0.0 in
    let high = k.0.1 in
    (omega (arith, low, high), k.1)

-- how a number begins that takes more than so many bytes
large_begins : (n k : ℕ) (s t : List ℕ) → k ∷ t ≡ large_number n ++ s → 254 ≤ k
large_begins n k s t e = by (nat_lt n 4294967296) e
  where
    by : (a : Bool) → k ∷ t ≡ (if a then 254 ∷ four n else 255 ∷ eight n) ++ s → 254 ≤ k
    by true f = (let is = (cons_back k 254 t (four n ++ s) f).0 in omega (arith, is))
    by false f = (let is = (cons_back k 255 t (eight n ++ s) f).0 in omega (arith, is))

wide_begins : (n k : ℕ) (s t : List ℕ) → k ∷ t ≡ wide_number n ++ s → 253 ≤ k
wide_begins n k s t e = by (nat_lt n 65536) e
  where
    by : (a : Bool) → k ∷ t ≡ (if a then 253 ∷ two n else large_number n) ++ s → 253 ≤ k
    by true f = (let is = (cons_back k 253 t (two n ++ s) f).0 in omega (arith, is))
    by false f = (let is = large_begins n k s t f in omega (arith, is))

large_back : IsReadBack large_number
large_back n m s t e = by (nat_lt n 4294967296) (nat_lt m 4294967296) e
  where
    by : (a b : Bool) → (if a then 254 ∷ four n else 255 ∷ eight n) ++ s ≡ (if b then 254 ∷ four m else 255 ∷ eight m) ++ t
        → (n ≡ m) × (s ≡ t)
    by true true k = four_back n m s t (cons_back 254 254 (four n ++ s) (four m ++ t) k).1
    by true false k = absurd (let is = (cons_back 254 255 (four n ++ s) (eight m ++ t) k).0 in omega (arith, is))
    by false true k = absurd (let is = (cons_back 255 254 (eight n ++ s) (four m ++ t) k).0 in omega (arith, is))
    by false false k = eight_back n m s t (cons_back 255 255 (eight n ++ s) (eight m ++ t) k).1

wide_back : IsReadBack wide_number
wide_back n m s t e = by (nat_lt n 65536) (nat_lt m 65536) e
  where
    by : (a b : Bool) → (if a then 253 ∷ two n else large_number n) ++ s ≡ (if b then 253 ∷ two m else large_number m) ++ t
        → (n ≡ m) × (s ≡ t)
    by true true k = two_back n m s t (cons_back 253 253 (two n ++ s) (two m ++ t) k).1
    by true false k = absurd (let is = large_begins m 253 t (two n ++ s) k in omega (arith, is))
    by false true k = absurd (let is = large_begins n 253 s (two m ++ t) (sym k) in omega (arith, is))
    by false false k = large_back n m s t k

pub number_back : IsReadBack number
unfolding number
number_back n m s t e = by (nat_lt n 253) (nat_lt m 253) refl refl e
  where
    small : (n : ℕ) → nat_lt n 253 ≡ true → 253 ≤ n → ⊥
    small n l m = grind (arith, l, m)

    by : (a b : Bool) → nat_lt n 253 ≡ a → nat_lt m 253 ≡ b
        → (if a then n ∷ [] else wide_number n) ++ s ≡ (if b then m ∷ [] else wide_number m) ++ t → (n ≡ m) × (s ≡ t)
    by true true f g k = cons_back n m s t k
    by true false f g k = absurd (small n f (wide_begins m n t s k))
    by false true f g k = absurd (small m g (wide_begins n m s t (sym k)))
    by false false f g k = wide_back n m s t k

folded_back : (x y : ℤ) → folded x ≡ folded y → x ≡ y
folded_back (pos n) (pos m) e = (let k : n ≡ m = omega (arith, e) in ap pos k)
folded_back (pos n) (negsuc m) e = absurd (omega (arith, e))
folded_back (negsuc n) (pos m) e = absurd (omega (arith, e))
folded_back (negsuc n) (negsuc m) e = (let k : n ≡ m = omega (arith, e) in ap negsuc k)

pub integer_back : IsReadBack integer
integer_back x y s t e = let k = number_back (folded x) (folded y) s t e in (folded_back x y k.0, k.1)

pub perhaps_back : IsReadBack perhaps
perhaps_back None None s t e = (refl, cc)
perhaps_back None (Some m) s t e = absurd (cc)
perhaps_back (Some n) None s t e = absurd (cc)
perhaps_back (Some n) (Some m) s t e = let k = number_back n m s t (cons_back 1 1 (number n ++ s) (number m ++ t) e).1
    in (ap (λ (x : ℕ). Some x) k.0, k.1)

-- ---- lists

-- what is told where there are as many
counted : (p q : List ℕ) (n m : ℕ) (P : Type 0) → (n ≡ m → (s t : List ℕ) → p ++ s ≡ q ++ t → P × (s ≡ t))
    → (s t : List ℕ) → (number n ++ p) ++ s ≡ (number m ++ q) ++ t → P × (s ≡ t)
counted p q n m P rest s t e =
    let k = number_back n m (p ++ s) (q ++ t) (sym (append_assoc (number n) p s) ∙ e ∙ append_assoc (number m) q t) in
    rest k.0 s t k.1

module _ {A : Type 0} (part : A → List ℕ) (back : IsReadBack part) where
  all_back : (xs ys : List A) (s t : List ℕ) → length xs ≡ length ys → flat_map part xs ++ s ≡ flat_map part ys ++ t
      → (xs ≡ ys) × (s ≡ t)
  all_back [] [] s t k e = (refl, e)
  all_back [] (y ∷ ys) s t k e = absurd (cc)
  all_back (x ∷ xs) [] s t k e = absurd (cc)
  all_back (x ∷ xs) (y ∷ ys) s t k e =
      let both = (and_then _ _ _ _ (of_part part back x y) (record {
        told = λ u v. all_back xs ys u v (omega (arith, k));
      })).told s t e in
      (rw (both.0.0, both.0.1) refl, both.1)

  pub each_back : IsReadBack (each part)
  each_back xs ys s t e = counted (flat_map part xs) (flat_map part ys) (length xs) (length ys) (xs ≡ ys)
      (λ k u v. all_back xs ys u v k) s t e

-- ---- values, frames, states of classes and faults

tagged : (a : ℕ) (r q s t : List ℕ) → (a ∷ r) ++ s ≡ (a ∷ q) ++ t → r ++ s ≡ q ++ t
tagged a r q s t e = (cons_back a a (r ++ s) (q ++ t) e).1

pub value_back : IsReadBack value
value_back (Int x) (Int y) s t e = let k = integer_back x y s t (tagged 0 (integer x) (integer y) s t e) in (ap Int k.0, k.1)
value_back (Int x) (Long y) s t e = absurd (cc)
value_back (Int x) (Ref None) s t e = absurd (cc)
value_back (Int x) (Ref (Some b)) s t e = absurd (cc)
value_back (Long x) (Int y) s t e = absurd (cc)
value_back (Long x) (Long y) s t e = let k = integer_back x y s t (tagged 1 (integer x) (integer y) s t e) in (ap Long k.0, k.1)
value_back (Long x) (Ref None) s t e = absurd (cc)
value_back (Long x) (Ref (Some b)) s t e = absurd (cc)
value_back (Ref None) (Int y) s t e = absurd (cc)
value_back (Ref None) (Long y) s t e = absurd (cc)
value_back (Ref None) (Ref None) s t e = (refl, cc)
value_back (Ref None) (Ref (Some b)) s t e = absurd (cc)
value_back (Ref (Some a)) (Int y) s t e = absurd (cc)
value_back (Ref (Some a)) (Long y) s t e = absurd (cc)
value_back (Ref (Some a)) (Ref None) s t e = absurd (cc)
value_back (Ref (Some a)) (Ref (Some b)) s t e =
    let k = number_back a b s t (tagged 3 (number a) (number b) s t e) in (ap (λ (x : ℕ). Ref (Some x)) k.0, k.1)

-- a value never begins as what is none
not_value : (v : Value) (n : ℕ) (s t : List ℕ) → 4 ≤ n → n ∷ t ≡ value v ++ s → ⊥
not_value (Int x) n s t l e = (let k = (cons_back n 0 t (integer x ++ s) e).0 in omega (arith, l, k))
not_value (Long x) n s t l e = (let k = (cons_back n 1 t (integer x ++ s) e).0 in omega (arith, l, k))
not_value (Ref None) n s t l e = (let k = (cons_back n 2 t s e).0 in omega (arith, l, k))
not_value (Ref (Some b)) n s t l e = (let k = (cons_back n 3 t (number b ++ s) e).0 in omega (arith, l, k))

pub entry_back : IsReadBack entry
entry_back Unset Unset s t e = (refl, cc)
entry_back Unset (Holds v) s t e = absurd (not_value v 4 t s (omega arith) e)
entry_back Unset UpperHalf s t e = absurd (cc)
entry_back (Holds v) Unset s t e = absurd (not_value v 4 s t (omega arith) (sym e))
entry_back (Holds v) (Holds w) s t e = let k = value_back v w s t e in (ap Holds k.0, k.1)
entry_back (Holds v) UpperHalf s t e = absurd (not_value v 5 s t (omega arith) (sym e))
entry_back UpperHalf Unset s t e = absurd (cc)
entry_back UpperHalf (Holds v) s t e = absurd (not_value v 5 t s (omega arith) e)
entry_back UpperHalf UpperHalf s t e = (refl, cc)

pub mark_back : IsReadBack mark
mark_back Unmarked Unmarked s t e = (refl, cc)
mark_back Unmarked Waiting s t e = absurd (cc)
mark_back Unmarked Failing s t e = absurd (cc)
mark_back Waiting Unmarked s t e = absurd (cc)
mark_back Waiting Waiting s t e = (refl, cc)
mark_back Waiting Failing s t e = absurd (cc)
mark_back Failing Unmarked s t e = absurd (cc)
mark_back Failing Waiting s t e = absurd (cc)
mark_back Failing Failing s t e = (refl, cc)

numbers : (n m : ℕ) → Tells (number n) (number m) (n ≡ m)
numbers n m = of_part number number_back n m

pub frame_back : IsReadBack frame
frame_back f g s t e =
    let method = and_then _ _ _ _ (numbers f.method.class g.method.class) (numbers f.method.method g.method.method) in
    let pc = and_then _ _ _ _ method (numbers f.pc g.pc) in
    let locals = and_then _ _ _ _ pc (of_part (each entry) (each_back entry entry_back) f.locals g.locals) in
    let stack = and_then _ _ _ _ locals (of_part (each value) (each_back value value_back) f.stack g.stack) in
    let room = and_then _ _ _ _ stack (numbers f.room g.room) in
    let monitor = and_then _ _ _ _ room (of_part perhaps perhaps_back f.monitor g.monitor) in
    let all = (and_then _ _ _ _ monitor (of_part mark mark_back f.mark g.mark)).told s t e in
    let k = all.0 in
    (rw (k.0.0.0.0.0.0.0, k.0.0.0.0.0.0.1, k.0.0.0.0.0.1, k.0.0.0.0.1, k.0.0.0.1, k.0.0.1, k.0.1, k.1) refl, all.1)

pub state_back : IsReadBack state
state_back Unused Unused s t e = (refl, cc)
state_back Unused (Running n) s t e = absurd (cc)
state_back Unused Done s t e = absurd (cc)
state_back Unused Failed s t e = absurd (cc)
state_back (Running n) Unused s t e = absurd (cc)
state_back (Running n) (Running m) s t e = let k = number_back n m s t (tagged 1 (number n) (number m) s t e)
    in (ap Running k.0, k.1)
state_back (Running n) Done s t e = absurd (cc)
state_back (Running n) Failed s t e = absurd (cc)
state_back Done Unused s t e = absurd (cc)
state_back Done (Running m) s t e = absurd (cc)
state_back Done Done s t e = (refl, cc)
state_back Done Failed s t e = absurd (cc)
state_back Failed Unused s t e = absurd (cc)
state_back Failed (Running m) s t e = absurd (cc)
state_back Failed Done s t e = absurd (cc)
state_back Failed Failed s t e = (refl, cc)

-- the faults by their numbers
abbrev faults : List (Option Fault)
faults = None ∷ Some StackEmpty ∷ Some StackFull ∷ Some WrongKind ∷ Some WrongLocal ∷ Some NoInstruction ∷ Some WrongClass
    ∷ Some WrongReturn ∷ Some ThreadLimit ∷ Some NoMethod ∷ Some MonitorLimit ∷ []

of_number : (f : Fault) → slice_get faults (fault_number f) ≡ Some (Some f)
of_number StackEmpty = refl
of_number StackFull = refl
of_number WrongKind = refl
of_number WrongLocal = refl
of_number NoInstruction = refl
of_number WrongClass = refl
of_number WrongReturn = refl
of_number ThreadLimit = refl
of_number NoMethod = refl
of_number MonitorLimit = refl

same_fault : (f g : Fault) → fault_number f ≡ fault_number g → f ≡ g
same_fault f g e = (let k : Some (Some f) ≡ Some (Some g) = sym (of_number f) ∙ ap (slice_get faults) e ∙ of_number g in cc)

not_none : (f : Fault) → fault_number f ≡ 0 → ⊥
not_none f e = (let k : Some (Some f) ≡ Some None = sym (of_number f) ∙ ap (slice_get faults) e in cc)

pub fault_back : IsReadBack fault
fault_back None None s t e = (refl, cc)
fault_back None (Some g) s t e = absurd (not_none g.0 (sym (cons_back 0 (fault_number g.0) s (number g.1 ++ t) e).0))
fault_back (Some f) None s t e = absurd (not_none f.0 (cons_back (fault_number f.0) 0 (number f.1 ++ s) t e).0)
fault_back (Some f) (Some g) s t e =
    let k = cons_back (fault_number f.0) (fault_number g.0) (number f.1 ++ s) (number g.1 ++ t) e in
    let thread = number_back f.1 g.1 s t k.1 in
    (rw (same_fault f.0 g.0 k.0, thread.0) refl, thread.1)

-- ---- rows of bytes

raw_back : {A : Type 0} (xs ys s t : List A) → length xs ≡ length ys → xs ++ s ≡ ys ++ t → (xs ≡ ys) × (s ≡ t)
raw_back [] [] s t k e = (refl, e)
raw_back [] (y ∷ ys) s t k e = absurd (cc)
raw_back (x ∷ xs) [] s t k e = absurd (cc)
raw_back (x ∷ xs) (y ∷ ys) s t k e =
    let one : x ≡ y = cc in
    let tails : xs ++ s ≡ ys ++ t = cc in
    let rest = raw_back xs ys s t (omega (arith, k)) tails in
    (rw (one, rest.0) refl, rest.1)

pub bytes_back : IsReadBack bytes
bytes_back xs ys s t e = counted xs ys (length xs) (length ys) (xs ≡ ys) (λ k u v. raw_back xs ys u v k) s t e

-- ---- what has names

module _ (table : List (List ℕ)) where
  place_tells : (i : ℕ) (m n : List ℕ) → place_of table m ≡ Some i → place_of table n ≡ Some i → m ≡ n
  place_tells i m n e f =
      let one = (bytes_eq-Decides m (get_or table i [])).0 (position-Some (bytes_eq m) table i [] e).1 in
      let other = (bytes_eq-Decides n (get_or table i [])).0 (position-Some (bytes_eq n) table i [] f).1 in
      one ∙ sym other

  by_place : (m n : List ℕ) (i j : Option ℕ) → place_of table m ≡ i → place_of table n ≡ j → (s t : List ℕ)
      → name_at m i ++ s ≡ name_at n j ++ t → (m ≡ n) × (s ≡ t)
  by_place m n None None f g s t e = bytes_back m n s t (tagged 0 (bytes m) (bytes n) s t e)
  by_place m n None (Some j) f g s t e = absurd (cc)
  by_place m n (Some i) None f g s t e = absurd (cc)
  by_place m n (Some i) (Some j) f g s t e =
      let k = number_back i j s t (tagged 1 (number i) (number j) s t e) in
      (place_tells i m n f (g ∙ ap (λ (x : ℕ). Some x) (sym k.0)), k.1)

  pub name_back : IsReadBack (name table)
  name_back m n s t e = by_place m n (place_of table m) (place_of table n) refl refl s t e

  names : (m n : List ℕ) → Tells (name table m) (name table n) (m ≡ n)
  names m n = of_part (name table) name_back m n

  pub field_back : IsReadBack (field table)
  field_back f g s t e =
      let its = and_then _ _ _ _ (names f.class g.class) (names f.name g.name) in
      let descriptor = and_then _ _ _ _ its (names f.descriptor g.descriptor) in
      let all = (and_then _ _ _ _ descriptor (of_part value value_back f.value g.value)).told s t e in
      let k = all.0 in
      (rw (k.0.0.0, k.0.0.1, k.0.1, k.1) refl, all.1)

  pub contents_back : IsReadBack (contents table)
  contents_back (Instance c fs) (Instance d gs) s t e =
      let all = (and_then _ _ _ _ (names c d) (of_part (each (field table)) (each_back (field table) field_back) fs gs)).told
      s t (tagged 0 (name table c ++ each (field table) fs) (name table d ++ each (field table) gs) s t e) in
      (rw (all.0.0, all.0.1) refl, all.1)
  contents_back (Instance c fs) (Array d vs) s t e = absurd (cc)
  contents_back (Array c vs) (Instance d gs) s t e = absurd (cc)
  contents_back (Array c vs) (Array d ws) s t e =
      let all = (and_then _ _ _ _ (names c d) (of_part (each value) (each_back value value_back) vs ws)).told s t
      (tagged 1 (name table c ++ each value vs) (name table d ++ each value ws) s t e) in
      (rw (all.0.0, all.0.1) refl, all.1)

  pub object_back : IsReadBack (object table)
  object_back o p s t e =
      let owner = and_then _ _ _ _ (of_part (contents table) contents_back o.contents p.contents)
      (of_part perhaps perhaps_back o.monitor.owner p.monitor.owner) in
      let count = and_then _ _ _ _ owner (numbers o.monitor.count p.monitor.count) in
      let all = (and_then _ _ _ _ count (of_part perhaps perhaps_back o.thread p.thread)).told s t e in
      let k = all.0 in
      (rw (k.0.0.0, k.0.0.1, k.0.1, k.1) refl, all.1)

  pub thread_back : IsReadBack (thread table)
  thread_back (Live fs) (Live gs) s t e =
      let k = each_back frame frame_back fs gs s t (tagged 0 (each frame fs) (each frame gs) s t e) in (ap Live k.0, k.1)
  thread_back (Live fs) (Ended None) s t e = absurd (cc)
  thread_back (Live fs) (Ended (Some c)) s t e = absurd (cc)
  thread_back (Ended None) (Live gs) s t e = absurd (cc)
  thread_back (Ended None) (Ended None) s t e = (refl, cc)
  thread_back (Ended None) (Ended (Some c)) s t e = absurd (cc)
  thread_back (Ended (Some c)) (Live gs) s t e = absurd (cc)
  thread_back (Ended (Some c)) (Ended None) s t e = absurd (cc)
  thread_back (Ended (Some c)) (Ended (Some d)) s t e =
      let k = name_back c d s t (tagged 2 (name table c) (name table d) s t e) in
      (ap (λ (x : List ℕ). Ended (Some x)) k.0, k.1)

-- ---- the pieces of a state

heads : (v w : World) → Tells (head v) (head w) ((length v.statics.fields ≡ length w.statics.fields)
    × (length v.objects ≡ length w.objects) × (v.statics.states ≡ w.statics.states) × (v.output ≡ w.output)
    × (v.fault ≡ w.fault) × (v.rows ≡ w.rows))
heads v w = record {
  told = λ s t e. (
      let counts = and_then _ _ _ _ (numbers (length v.statics.fields) (length w.statics.fields))
      (numbers (length v.objects) (length w.objects)) in
      let states = and_then _ _ _ _ counts (of_part (each state) (each_back state state_back) v.statics.states w.statics.states) in
      let output = and_then _ _ _ _ states (of_part bytes bytes_back v.output w.output) in
      let faults = and_then _ _ _ _ output (of_part fault fault_back v.fault w.fault) in
      let all = (and_then _ _ _ _ faults (numbers v.rows w.rows)).told s t e in
      let k = all.0 in
      ((k.0.0.0.0.0, k.0.0.0.0.1, k.0.0.0.1, k.0.0.1, k.0.1, k.1), all.1)
      );
}

-- a piece for each
module _ {A : Type 0} (part : A → List ℕ) (back : IsReadBack part) where
  each_piece : (xs ys : List A) → map part xs ≡ map part ys → xs ≡ ys
  each_piece [] [] e = refl
  each_piece [] (y ∷ ys) e = absurd (cc)
  each_piece (x ∷ xs) [] e = absurd (cc)
  each_piece (x ∷ xs) (y ∷ ys) e =
      let here : part x ≡ part y = cc in
      let there : map part xs ≡ map part ys = cc in
      rw ((back x y [] [] (ap (λ zs. zs ++ []) here)).0, each_piece xs ys there) refl

  some_pieces : (xs ys : List A) (s t : List (List ℕ)) → length xs ≡ length ys → map part xs ++ s ≡ map part ys ++ t
      → (xs ≡ ys) × (s ≡ t)
  some_pieces xs ys s t k e =
      let both = raw_back (map part xs) (map part ys) s t (length-map xs part ∙ k ∙ sym (length-map ys part)) e in
      (each_piece xs ys both.0, both.1)

-- two rows after another
apart : (xs ys zs us vs ws : List (List ℕ)) → xs ++ ys ++ zs ≡ us ++ vs ++ ws → xs ++ (ys ++ zs) ≡ us ++ (vs ++ ws)
apart xs ys zs us vs ws e = sym (append_assoc xs ys zs) ∙ e ∙ append_assoc us vs ws

pub pieces_tell : PiecesTell
pieces_tell table v w e =
    let first : head v ≡ head w = cc in
    let after : rest table v ≡ rest table w = cc in
    let k = ((heads v w).told [] [] (ap (λ xs. xs ++ []) first)).0 in
    let objects_v = map (object table) v.objects in
    let objects_w = map (object table) w.objects in
    let threads_v = map (thread table) v.threads in
    let threads_w = map (thread table) w.threads in
    let fields = some_pieces (field table) (field_back table) v.statics.fields w.statics.fields (objects_v ++ threads_v)
    (objects_w ++ threads_w) k.0 (apart (map (field table) v.statics.fields) objects_v threads_v
    (map (field table) w.statics.fields) objects_w threads_w after) in
    let objects = some_pieces (object table) (object_back table) v.objects w.objects threads_v threads_w k.1 fields.1 in
    let threads = each_piece (thread table) (thread_back table) v.threads w.threads objects.1 in
    rw (threads, fields.0, k.2, k.3, objects.0, k.4, k.5) refl

-- ---- outcomes

end_back : IsReadBack end
end_back Lives Lives s t e = (refl, cc)
end_back Lives (HasEnded None) s t e = absurd (cc)
end_back Lives (HasEnded (Some c)) s t e = absurd (cc)
end_back (HasEnded None) Lives s t e = absurd (cc)
end_back (HasEnded None) (HasEnded None) s t e = (refl, cc)
end_back (HasEnded None) (HasEnded (Some c)) s t e = absurd (cc)
end_back (HasEnded (Some c)) Lives s t e = absurd (cc)
end_back (HasEnded (Some c)) (HasEnded None) s t e = absurd (cc)
end_back (HasEnded (Some c)) (HasEnded (Some d)) s t e =
    let k = bytes_back c d s t (tagged 2 (bytes c) (bytes d) s t e) in
    (ap (λ (x : List ℕ). HasEnded (Some x)) k.0, k.1)

-- a status by its number
abbrev numbered_status : Status → ℕ
numbered_status RunningStatus = 0
numbered_status Finished = 1
numbered_status Stuck = 2
numbered_status Faulted = 3

status_is : (x : Status) (s : List ℕ) → status x ++ s ≡ numbered_status x ∷ s
status_is RunningStatus s = refl
status_is Finished s = refl
status_is Stuck s = refl
status_is Faulted s = refl

abbrev status_at : ℕ → Status
status_at zero = RunningStatus
status_at (suc zero) = Finished
status_at (suc (suc zero)) = Stuck
status_at (suc (suc (suc n))) = Faulted

status_again : (x : Status) → status_at (numbered_status x) ≡ x
status_again RunningStatus = refl
status_again Finished = refl
status_again Stuck = refl
status_again Faulted = refl

status_back : IsReadBack status
status_back x y s t e =
    let k = cons_back (numbered_status x) (numbered_status y) s t (sym (status_is x s) ∙ e ∙ status_is y t) in
    (sym (status_again x) ∙ ap status_at k.0 ∙ status_again y, k.1)

outcome_back : IsReadBack outcome
outcome_back o p s t e =
    let faults = and_then _ _ _ _ (of_part bytes bytes_back o.output p.output) (of_part fault fault_back o.fault p.fault) in
    let ends = and_then _ _ _ _ faults (of_part (each end) (each_back end end_back) o.ends p.ends) in
    let all = (and_then _ _ _ _ ends (of_part status status_back o.status p.status)).told s t e in
    let k = all.0 in
    (rw (k.0.0.0, k.0.0.1, k.0.1, k.1) refl, all.1)

pub outcome_keys_tell : OutcomeKeysTell
outcome_keys_tell o p e = (outcome_back o p [] [] (ap (λ xs. xs ++ []) e)).0
