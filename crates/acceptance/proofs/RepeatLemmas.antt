-- Keys of items: what was noted of each tells whether several items have it.
use Rattle.std.proofs.Common.{◌≡◌, ℕ, zero, suc, ◌+◌, ◌<◌, nat_lt, length, take, get_or, List, Bool, true, false, cond}
use Rattle.std.proofs.Common.{Option, Some, None, is_some, ◌&&◌, refl, arith, sym, ap, ◌∙◌}
use Rattle.std.specs.List.{count_by}
use Rattle.std.specs.Str.{bytes_eq}
use Rattle.std.proofs.lemmas.Bool.{lt-ltb}
use Rattle.std.proofs.lemmas.Slice.Eq.{bytes_eq-Decides}
use Rattle.std.proofs.lemmas.List.Sums.{count_by_more_no, count_by_more_yes}
use Rattle.resolve.specs.declared.keys.NameKey.{NameKey}
use Rattle.acceptance.specs.declared.repeats.Repeats.{Repeats}
use Rattle.acceptance.specs.Repeats.{again, with_one_more, is_again, name_again, signature_again}

-- what is noted of a key that so many items have
unfoldable pub times : ℕ → Option Bool
times zero = None
times (suc zero) = Some false
times (suc (suc n)) = Some true

times-more : (n : ℕ) → times (n + 1) ≡ Some (is_some (times n))
unfolding times
times-more zero = refl
times-more (suc zero) = refl
times-more (suc (suc n)) = let e : suc (suc n) + 1 ≡ suc (suc (suc n)) = omega arith in rw e refl

pub times-twice : (n : ℕ) → is_again (times n) ≡ nat_lt 1 n
unfolding times
times-twice zero = refl
times-twice (suc zero) = refl
times-twice (suc (suc n)) = sym (lt-ltb 1 (suc (suc n)) (omega arith))

module _ {K A : Type 0} (eq : K → K → Bool) (is : K → A → Bool) where
  -- each key is noted as often as items have it
  abbrev pub Notes : Repeats K → List A → Type 0
  Notes repeats xs = (key : K) → again eq repeats key ≡ times (count_by (is key) xs)

  pub notes-none : (repeats : Repeats K) (xs : List A) → ((key : K) → again eq repeats key ≡ None)
      → Notes repeats (take 0 xs)
  unfolding times
  notes-none repeats xs none key = none key

  pub notes-more : (before after : Repeats K) (xs : List A) (i : ℕ) (x : A) (key : K) → Notes before (take i xs)
      → i < length xs → x ≡ get_or xs i x
      → ((k : K) → eq key k ≡ is k x) → ((k : K) → is k x ≡ true → (a : A) → is key a ≡ is k a)
      → ((k : K) → again eq after k ≡ with_one_more eq key (again eq before) k)
      → Notes after (take (i + 1) xs)
  notes-more before after xs i x key notes within at of_item one_key noted k = by (is k x) refl
    where
      by : (b : Bool) → is k x ≡ b → again eq after k ≡ times (count_by (is k) (take (i + 1) xs))
      by true h =
          let more : count_by (is k) (take (i + 1) xs) ≡ count_by (is k) (take i xs) + 1 =
          count_by_more_yes (is k) xs i x within (ap (is k) (sym at) ∙ h) in
          noted k
          ∙ ap (λ b. cond b (Some (is_some (again eq before key))) (again eq before k)) (of_item k ∙ h)
          ∙ ap (λ o. Some (is_some o)) (notes key)
          ∙ (λ j. Some (is_some (times (count_by (λ a. one_key k h a j) (take i xs)))))
          ∙ sym (times-more (count_by (is k) (take i xs)))
          ∙ ap times (sym more)
      by false h =
          let same : count_by (is k) (take (i + 1) xs) ≡ count_by (is k) (take i xs) =
          count_by_more_no (is k) xs i x within (ap (is k) (sym at) ∙ h) in
          noted k
          ∙ ap (λ b. cond b (Some (is_some (again eq before key))) (again eq before k)) (of_item k ∙ h)
          ∙ notes k
          ∙ ap times (sym same)

-- ---- items with a name

module _ {A : Type 0} (name : A → List ℕ) where
  abbrev has_name : NameKey → A → Bool
  has_name key a = bytes_eq (name a) key.bytes.now

  abbrev pub NotesNames : Repeats NameKey → List A → Type 0
  NotesNames = Notes (λ x y. bytes_eq x.bytes.now y.bytes.now) has_name

  pub names-more : (before after : Repeats NameKey) (xs : List A) (i : ℕ) (x : A) (key : NameKey)
      → NotesNames before (take i xs)
      → i < length xs → x ≡ get_or xs i x → key.bytes.now ≡ name x
      → ((k : NameKey) → again (λ x y. bytes_eq x.bytes.now y.bytes.now) after k
      ≡ with_one_more (λ x y. bytes_eq x.bytes.now y.bytes.now) key (again (λ x y. bytes_eq x.bytes.now y.bytes.now)
      before) k)
      → NotesNames after (take (i + 1) xs)
  names-more before after xs i x key notes within at named noted =
      notes-more (λ x y. bytes_eq x.bytes.now y.bytes.now) has_name before after xs i x key notes within at
      (λ k. ap (λ n. bytes_eq n k.bytes.now) named)
      (λ k h a. ap (bytes_eq (name a)) (named ∙ (bytes_eq-Decides (name x) k.bytes.now).0 h)) noted

  pub names-all : (repeats : Repeats NameKey) (xs : List A) (n : List ℕ) → NotesNames repeats xs
      → name_again repeats n ≡ nat_lt 1 (count_by (λ a. bytes_eq (name a) n) xs)
  names-all repeats xs n notes =
      ap is_again (notes (record { bytes = record { ref_ptr = (0, 0); now = n } }))
      ∙ times-twice (count_by (λ a. bytes_eq (name a) n) xs)

-- ---- items with a name and a descriptor

and-left : (a b : Bool) → (a && b) ≡ true → a ≡ true
and-left true b h = refl
and-left false b h = h

and-right : (a b : Bool) → (a && b) ≡ true → b ≡ true
and-right true b h = h
and-right false b h = cc

abbrev Signature : Type 0
Signature = NameKey × NameKey

abbrev same_signature : Signature → Signature → Bool
same_signature x y = bytes_eq x.0.bytes.now y.0.bytes.now && bytes_eq x.1.bytes.now y.1.bytes.now

module _ {A : Type 0} (name descriptor : A → List ℕ) where
  abbrev has_signature : Signature → A → Bool
  has_signature key a = bytes_eq (name a) key.0.bytes.now && bytes_eq (descriptor a) key.1.bytes.now

  abbrev pub NotesSignatures : Repeats Signature → List A → Type 0
  NotesSignatures = Notes same_signature has_signature

  pub signatures-more : (before after : Repeats Signature) (xs : List A) (i : ℕ) (x : A) (key : Signature)
      → NotesSignatures before (take i xs)
      → i < length xs → x ≡ get_or xs i x → key.0.bytes.now ≡ name x → key.1.bytes.now ≡ descriptor x
      → ((k : Signature) → again same_signature after k ≡ with_one_more same_signature key (again same_signature before)
      k)
      → NotesSignatures after (take (i + 1) xs)
  signatures-more before after xs i x key notes within at named described noted =
      notes-more same_signature has_signature before after xs i x key notes within at
      (λ k j. bytes_eq (named j) k.0.bytes.now && bytes_eq (described j) k.1.bytes.now)
      (λ k h a j. bytes_eq (name a) (same_name k h j) && bytes_eq (descriptor a) (same_descriptor k h j)) noted
    where
      same_name : (k : Signature) → has_signature k x ≡ true → key.0.bytes.now ≡ k.0.bytes.now
      same_name k h =
          named ∙ (bytes_eq-Decides (name x) k.0.bytes.now).0 (and-left (bytes_eq (name x) k.0.bytes.now)
          (bytes_eq (descriptor x) k.1.bytes.now) h)

      same_descriptor : (k : Signature) → has_signature k x ≡ true → key.1.bytes.now ≡ k.1.bytes.now
      same_descriptor k h =
          described ∙ (bytes_eq-Decides (descriptor x) k.1.bytes.now).0 (and-right (bytes_eq (name x) k.0.bytes.now)
          (bytes_eq (descriptor x) k.1.bytes.now) h)

  pub signatures-all : (repeats : Repeats Signature) (xs : List A) (n d : List ℕ) → NotesSignatures repeats xs
      → signature_again repeats n d ≡ nat_lt 1 (count_by (λ a. bytes_eq (name a) n && bytes_eq (descriptor a) d) xs)
  signatures-all repeats xs n d notes =
      ap is_again (notes (
        record { bytes = record { ref_ptr = (0, 0); now = n } },
        record { bytes = record { ref_ptr = (0, 0); now = d } },
      ))
      ∙ times-twice (count_by (λ a. bytes_eq (name a) n && bytes_eq (descriptor a) d) xs)
