-- What has a number in a pool keeps it when the pool grows.
use Rattle.std.specs.Prelude.{IfErr, IsErrAnd, Result, Ok, Err}
use Rattle.std.proofs.lemmas.Result.{err_from_is_err_and}
use Rattle.std.specs.List.{flat_map}
use Rattle.std.proofs.Common.{◌≡◌, ℕ, ◌+◌, ◌≤◌, ◌^◌, true, List, [], ◌∷◌, ◌++◌, map, drop, refl, sym, ◌∙◌, ap, subst}
use Rattle.std.proofs.Common.{arith, append_assoc, append-nil}
use Rattle.model.specs.ClassFiles.Items.{Item, is_item_of, with_items, items_count}
use Rattle.assembler.specs.Answers.{HasNumber, OnlyFull}
use Rattle.assembler.specs.Assembled.{Grows, Stays, HasRoom}
use Rattle.assembler.specs.Numbering.{number_of}
use Rattle.assembler.specs.declared.error.AsmError.{AsmError}
use Rattle.assembler.specs.declared.error.AsmError.TheVariants as error
use Rattle.assembler.proofs.NumberingItems.{among_right, among_first, with_items-append, with_items_have, counts_grow}
use Rattle.assembler.proofs.NumberingEntries.{still_numbers}

-- an item that was added last
pub last_among : (added : List Item) (x : Item) → is_item_of (added ++ x ∷ []) x ≡ true
last_among added x = among_right added (x ∷ []) x (among_first x [])

-- an item's number
pub number_stays : (old new added : List Item) (x : Item) (n : ℕ) → is_item_of added x ≡ true
    → new ≡ with_items old added → n ≡ number_of new x → Stays old added new (λ items. number_of items x) n
number_stays old new added x n among grown number later = (
  with_items-append old added later ∙ ap (λ items. with_items items later) (sym grown),
  number ∙ sym (still_numbers new later x (subst (λ items. is_item_of items x ≡ true) (sym grown)
      (with_items_have old added x among))),
)

-- no room for these items, and so for none that are added later
pub no_room : (old added : List Item) → 2 ^ 16 ≤ items_count (with_items old added) → (later : List Item)
    → HasRoom (with_items old (added ++ later)) → ⊥
no_room old added past later room =
    let grows = counts_grow (with_items old added) later in
    let same = ap items_count (with_items-append old added later) in
    omega (arith, grows, past, same, room)

-- ---- an item after those that it names

following : (old mid xs : List Item) (y : Item) → Grows old xs mid → (later : List Item)
    → with_items old ((xs ++ y ∷ []) ++ later) ≡ with_items mid (y ∷ later)
following old mid xs y grows later = ap (with_items old) (append_assoc xs (y ∷ []) later) ∙ grows (y ∷ later)

pub item_found : (old mid new xs : List Item) (x y : Item) (answer : Result ℕ AsmError) → Grows old xs mid → x ≡ y
    → HasNumber mid (x ∷ []) new x answer → HasNumber old (xs ++ y ∷ []) new y answer
item_found old mid new xs x y answer grows is reported = by answer (subst (λ z. HasNumber mid (z ∷ []) new z answer) is
    reported)
  where
    by : (a : Result ℕ AsmError) → HasNumber mid (y ∷ []) new y a → HasNumber old (xs ++ y ∷ []) new y a
    by (Ok n) h = λ later. (following old mid xs y grows later ∙ (h later).0, (h later).1)
    by (Err e) h = tt

pub item_only : (old mid xs : List Item) (x y : Item) (answer : Result ℕ AsmError) → Grows old xs mid → x ≡ y
    → OnlyFull mid (x ∷ []) answer → OnlyFull old (xs ++ y ∷ []) answer
item_only old mid xs x y answer grows is reported = by answer (subst (λ z. OnlyFull mid (z ∷ []) answer) is reported)
  where
    by : (a : Result ℕ AsmError) → OnlyFull mid (y ∷ []) a → OnlyFull old (xs ++ y ∷ []) a
    by (Ok n) h = tt
    by (Err e) h = λ later room. h later (subst HasRoom (following old mid xs y grows later) room)

-- ---- a loop over parts, each of which adds its items

module _ {A B : Type 0} (items_of : A → List Item) (value : List Item → A → B) where
  -- so far the pool grew by the items of the first parts, and what was made of them stays
  pub record IsMade (initial now : List Item) (made : List B) (rest xs : List A) : Type 0 where
    pub grown : (later : List Item) → with_items initial (flat_map items_of xs ++ later)
        ≡ with_items now (flat_map items_of rest ++ later)
    pub are : (later : List Item) → made ++ map (value (with_items initial (flat_map items_of xs ++ later))) rest
        ≡ map (value (with_items initial (flat_map items_of xs ++ later))) xs

  pub begun : (initial : List Item) (made : List B) (xs : List A) → made ≡ [] → IsMade initial initial made xs xs
  begun initial made xs none = record { grown = λ later. refl; are = λ later. rw none refl }

  front : (x : A) (rest : List A) (later : List Item) → flat_map items_of (x ∷ rest) ++ later ≡ items_of x
      ++ (flat_map items_of rest ++ later)
  front x rest later = append_assoc (items_of x) (flat_map items_of rest) later

  pub goes_on : (initial now next : List Item) (made : List B) (xs : List A) (i : ℕ) (x : A) (b : B) → drop i xs
      ≡ x ∷ drop (i + 1) xs → IsMade initial now made (drop i xs) xs
      → Stays now (items_of x) next (λ items. value items x) b
      → IsMade initial next (made ++ b ∷ []) (drop (i + 1) xs) xs
  goes_on initial now next made xs i x b here so_far new = record {
    grown = grows;
    are = λ later.
        let whole = with_items initial (flat_map items_of xs ++ later) in
        let rest = map (value whole) (drop (i + 1) xs) in
        append_assoc made (b ∷ []) rest
        ∙ ap (λ y. made ++ y ∷ rest) ((new (flat_map items_of (drop (i + 1) xs) ++ later)).1
        ∙ ap (λ items. value items x) (sym (grows later)))
        ∙ ap (λ ys. made ++ map (value whole) ys) (sym here)
        ∙ so_far.are later;
  }
    where
      grows : (later : List Item) → with_items initial (flat_map items_of xs ++ later)
          ≡ with_items next (flat_map items_of (drop (i + 1) xs) ++ later)
      grows later =
          so_far.grown later
          ∙ ap (λ ys. with_items now (flat_map items_of ys ++ later)) here
          ∙ ap (with_items now) (front x (drop (i + 1) xs) later)
          ∙ (new (flat_map items_of (drop (i + 1) xs) ++ later)).0

  pub done : (initial now : List Item) (made : List B) (rest xs : List A) → rest ≡ [] → IsMade initial now made rest xs
      → Stays initial (flat_map items_of xs) now (λ items. map (value items) xs) made
  done initial now made rest xs none so_far later =
      let whole : with_items initial (flat_map items_of xs ++ later) ≡ with_items now later = so_far.grown later
      ∙ ap (λ ys. with_items now (flat_map items_of ys ++ later)) none in (
        whole,
        sym (append-nil made)
            ∙ ap (λ ys. made ++ map (value (with_items initial (flat_map items_of xs ++ later))) ys) (sym none)
            ∙ so_far.are later
            ∙ ap (λ items. map (value items) xs) whole,
      )

  -- a part that fails, in a pool that has room for all
  pub fails : (initial now : List Item) (made : List B) (xs : List A) (i : ℕ) (x : A) (e : AsmError) → drop i xs
      ≡ x ∷ drop (i + 1) xs → IsMade initial now made (drop i xs) xs
      → ((later : List Item) → HasRoom (with_items now (items_of x ++ later)) → e ≡ error.Memory) → (later : List Item)
      → HasRoom (with_items initial (flat_map items_of xs ++ later)) → e ≡ error.Memory
  fails initial now made xs i x e here so_far only later room =
      only (flat_map items_of (drop (i + 1) xs) ++ later)
      (subst HasRoom (so_far.grown later ∙ ap (λ ys. with_items now (flat_map items_of ys ++ later)) here
      ∙ ap (with_items now) (front x (drop (i + 1) xs) later)) room)

-- ---- one part after the other

pub stays_then : {A B : Type 0} (old mid new xs ys : List Item) (f : List Item → A) (g : List Item → B) (a : A) (b : B)
    → Stays old xs mid f a → Stays mid ys new g b → Stays {A = A × B} old (xs ++ ys) new (λ items. (f items, g items))
    (a, b)
stays_then old mid new xs ys f g a b first second later =
    let s = second later in
    let w = first (ys ++ later) in (
      ap (with_items old) (append_assoc xs ys later) ∙ w.0 ∙ s.0,
      ap (λ x. (x, b)) (w.1 ∙ ap f s.0) ∙ ap (λ y. (f (with_items new later), y)) s.1,
    )

pub stays_as : {A B : Type 0} (old new xs : List Item) (f : List Item → A) (a : A) (h : A → B) → Stays old xs new f a
    → Stays old xs new (λ items. h (f items)) (h a)
stays_as old new xs f a h s later = ((s later).0, ap h ((s later).1))

-- what follows where the first part fails, or the second
pub first_fails : {E : Type 0} (P : List Item → Type 0) (old xs ys : List Item)
    → ((later : List Item) → P (with_items old (xs ++ later)) → E) → (later : List Item)
    → P (with_items old ((xs ++ ys) ++ later)) → E
first_fails P old xs ys f later p = f (ys ++ later) (subst P (ap (with_items old) (append_assoc xs ys later)) p)

pub second_fails : {A E : Type 0} (P : List Item → Type 0) (old mid xs ys : List Item) (f : List Item → A) (a : A)
    → Stays old xs mid f a → ((later : List Item) → P (with_items mid (ys ++ later)) → E) → (later : List Item)
    → P (with_items old ((xs ++ ys) ++ later)) → E
second_fails P old mid xs ys f a s g later p = g later (subst P (ap (with_items old) (append_assoc xs ys later)
    ∙ (s (ys ++ later)).0) p)

-- an error that `?` gives on
pub given_on : {T : Type 0} (r : Result T AsmError) (e : AsmError) (P : AsmError → Type 0) → IsErrAnd r (λ y. y ≡ e)
    → P e → IfErr r P
given_on r e P h p = let q = err_from_is_err_and r h in subst (λ s. IfErr s P) (sym q.1) (subst P (sym q.2) p)

-- refused where the first part was, or the second
pub first_refused : {A : Type 0} (answer : Result A AsmError) (e : AsmError) (old xs ys : List Item)
    → IsErrAnd answer (λ f. f ≡ e)
    → ((later : List Item) → HasRoom (with_items old (xs ++ later)) → e ≡ error.Memory) → OnlyFull old (xs ++ ys) answer
first_refused answer e old xs ys given only =
    given_on answer e (λ f. (later : List Item) → HasRoom (with_items old ((xs ++ ys) ++ later)) → f ≡ error.Memory)
    given (first_fails HasRoom old xs ys only)

pub second_refused : {A : Type 0} (answer : Result A AsmError) (e : AsmError) (old mid xs ys : List Item)
    → IsErrAnd answer (λ f. f ≡ e) → Grows old xs mid
    → ((later : List Item) → HasRoom (with_items mid (ys ++ later)) → e ≡ error.Memory) → OnlyFull old (xs ++ ys) answer
second_refused answer e old mid xs ys given grows only =
    given_on answer e (λ f. (later : List Item) → HasRoom (with_items old ((xs ++ ys) ++ later)) → f ≡ error.Memory)
    given
    (λ later room. only later (subst HasRoom (ap (with_items old) (append_assoc xs ys later) ∙ grows (ys ++ later))
    room))
