-- What stands under the numbers of items.
use Rattle.std.proofs.Common.{◌≡◌, ℕ, eqb, zero, suc, ◌+◌, true, false, ◌⊎◌, List, [], ◌∷◌, ◌++◌, map, slice_get}
use Rattle.std.proofs.Common.{Option, Some, None, refl, sym, ◌∙◌, ap, inl, inr, arith}
use Rattle.std.specs.Prelude.{sum_by}
use Rattle.std.proofs.lemmas.Bool.{cases_Bool, or_right, false_from_ne_true, true≢false, ne_eqb}
use Rattle.std.proofs.lemmas.List.Sums.{sum_by-cons}
use Rattle.model.specs.ClassFiles.Entries.{numbers_of}
use Rattle.model.specs.ClassFiles.Pools.{under, slots_of, held, entry_at, pool_count}
use Rattle.model.specs.ClassFiles.Items.{Item, is_same_item, is_item_of, with_item, with_items, numbers_taken}
use Rattle.model.specs.ClassFiles.Items.{items_count}
use Rattle.model.specs.ClassFiles.Items.Item.{text_item, int_item, long_item, class_item, name_item, field_item}
use Rattle.model.specs.ClassFiles.Items.Item.{method_item, interface_item}
use Rattle.model.specs.declared.class_files.Entry.{Entry}
use Rattle.assembler.specs.Numbering.{number_from, number_of, entry_of, entries_of}
use Rattle.assembler.proofs.NumberingItems.{same_self, same_is, AreDifferent, item_new, item_known, with_item_keeps}
use Rattle.assembler.proofs.NumberingItems.{among_first}

-- ---- numbers as items are added

pub number_here : (n : ℕ) (x y : Item) (xs : List Item) → is_same_item y x ≡ true → number_from n (x ∷ xs) y ≡ n
number_here n x y xs h = rw h refl

pub number_after : (n : ℕ) (x y : Item) (xs : List Item) → is_same_item y x ≡ false → number_from n (x ∷ xs) y
    ≡ number_from (n + numbers_taken x) xs y
number_after n x y xs h = rw h refl

-- items after don't count
pub number_left : (n : ℕ) (xs ys : List Item) (y : Item) → is_item_of xs y ≡ true → number_from n (xs ++ ys) y
    ≡ number_from n xs y
number_left n [] ys y h = absurd (true≢false (sym h))
number_left n (x ∷ xs) ys y h = elim (cases_Bool (is_same_item y x)) [
  | inl t ↦ number_here n x y (xs ++ ys) t ∙ sym (number_here n x y xs t)
  | inr f ↦ number_after n x y (xs ++ ys) f ∙ number_left (n + numbers_taken x) xs ys y (rw f at h)
      ∙ sym (number_after n x y xs f)
]

-- a number stays what it was
pub still_number : (items : List Item) (x y : Item) → is_item_of items y ≡ true → number_of (with_item items x) y
    ≡ number_of items y
still_number items x y h = elim (cases_Bool (is_item_of items x)) [
  | inl t ↦ ap (λ xs. number_of xs y) (item_known items x t)
  | inr f ↦ ap (λ xs. number_of xs y) (item_new items x f) ∙ number_left 1 items (x ∷ []) y h
]

pub still_numbers : (items xs : List Item) (y : Item) → is_item_of items y ≡ true → number_of (with_items items xs) y
    ≡ number_of items y
still_numbers items [] y h = refl
still_numbers items (x ∷ xs) y h = still_numbers (with_item items x) xs y (with_item_keeps items x y h)
    ∙ still_number items x y h

-- ---- one item's entry

pub entry_takes : (items : List Item) (x : Item) → numbers_of (entry_of items x) ≡ numbers_taken x
entry_takes items (text_item text) = refl
entry_takes items (int_item z) = refl
entry_takes items (long_item z) = refl
entry_takes items (class_item name) = refl
entry_takes items (name_item name descriptor) = refl
entry_takes items (field_item m) = refl
entry_takes items (method_item m) = refl
entry_takes items (interface_item m) = refl

entries_take : (items xs : List Item) → sum_by numbers_of (map (entry_of items) xs) ≡ sum_by numbers_taken xs
entries_take items [] = refl
entries_take items (x ∷ xs) =
    omega (
      arith,
      entry_takes items x,
      entries_take items xs,
      sum_by-cons numbers_of (entry_of items x) (map (entry_of items) xs),
      sum_by-cons numbers_taken x xs,
    )

pub count_is : (items : List Item) → pool_count (entries_of items) ≡ items_count items
count_is items = ap (λ (n : ℕ). 1 + n) (entries_take items items)

-- an entry takes a number or two
abbrev Narrow : List Item → Item → List (Option Entry) → Type 0
Narrow items x others = (under (entry_of items x) others ≡ Some (entry_of items x) ∷ others) × (numbers_taken x ≡ 1)

abbrev Wide : List Item → Item → List (Option Entry) → Type 0
Wide items x others = (under (entry_of items x) others ≡ Some (entry_of items x) ∷ None ∷ others)
    × (numbers_taken x ≡ 2)

width : (items : List Item) (x : Item) (others : List (Option Entry)) → Narrow items x others ⊎ Wide items x others
width items (text_item text) others = inl (refl, refl)
width items (int_item z) others = inl (refl, refl)
width items (long_item z) others = inr (refl, refl)
width items (class_item name) others = inl (refl, refl)
width items (name_item name descriptor) others = inl (refl, refl)
width items (field_item m) others = inl (refl, refl)
width items (method_item m) others = inl (refl, refl)
width items (interface_item m) others = inl (refl, refl)

first_slot : (items : List Item) (x : Item) (others : List (Option Entry))
    → slice_get (under (entry_of items x) others) 0 ≡ Some (Some (entry_of items x))
first_slot items x others = elim (width items x others) [
  | inl n ↦ ap (λ (s : List (Option Entry)). slice_get s 0) n.0
  | inr w ↦ ap (λ (s : List (Option Entry)). slice_get s 0) w.0
]

following_slot : (items : List Item) (x : Item) (others : List (Option Entry)) (i : ℕ)
    → slice_get (under (entry_of items x) others) (numbers_taken x + i) ≡ slice_get others i
following_slot items x others i = elim (width items x others) [
  | inl n ↦
      let k : numbers_taken x + i ≡ suc i = omega (arith, n.1) in
      ap (λ (s : List (Option Entry)). slice_get s (numbers_taken x + i)) n.0
      ∙ ap (slice_get (Some (entry_of items x) ∷ others)) k
  | inr w ↦
      let k : numbers_taken x + i ≡ suc (suc i) = omega (arith, w.1) in
      ap (λ (s : List (Option Entry)). slice_get s (numbers_taken x + i)) w.0
      ∙ ap (slice_get (Some (entry_of items x) ∷ None ∷ others)) k
]

-- ---- an item's number has the item's entry

abbrev Stands : List Item → ℕ → List Item → Item → Type 0
Stands items n xs x = (i : ℕ) × (number_from n xs x ≡ n + i) × (slice_get (slots_of (map (entry_of items) xs)) i
    ≡ Some (Some (entry_of items x)))

stands : (items : List Item) (n : ℕ) (xs : List Item) (x : Item) → is_item_of xs x ≡ true → Stands items n xs x
stands items n [] x h = absurd (true≢false (sym h))
stands items n (y ∷ xs) x h = elim (cases_Bool (is_same_item x y)) [
  | inl t ↦ (
    0,
    number_here n y x xs t ∙ omega arith,
    first_slot items y (slots_of (map (entry_of items) xs)) ∙ ap (λ (z : Item). Some (Some (entry_of items z)))
        (sym (same_is x y t)),
  )
  | inr f ↦
      let rest = stands items (n + numbers_taken y) xs x (rw f at h) in (
        numbers_taken y + rest.0,
        number_after n y x xs f ∙ rest.1 ∙ omega arith,
        following_slot items y (slots_of (map (entry_of items) xs)) rest.0 ∙ rest.2,
      )
]

next_get : (slots : List (Option Entry)) (i : ℕ) → slice_get (None ∷ slots) (1 + i) ≡ slice_get slots i
next_get slots i = let k : 1 + i ≡ suc i = omega arith in ap (slice_get (None ∷ slots)) k

pub entry_under : (items : List Item) (x : Item) → is_item_of items x ≡ true
    → entry_at (entries_of items) (number_of items x) ≡ Some (entry_of items x)
entry_under items x h =
    let s = stands items 1 items x h in
    ap (λ (k : ℕ). held (slice_get (None ∷ slots_of (entries_of items)) k)) s.1
    ∙ ap held (next_get (slots_of (entries_of items)) s.0 ∙ s.2)

-- no item has the number 0
pub number_of_positive : (items : List Item) (x : Item) → is_item_of items x ≡ true → eqb (number_of items x) 0 ≡ false
number_of_positive items x h = let s = stands items 1 items x h
    in ne_eqb (number_of items x) 0 (λ e. absurd (omega (arith, e, s.1)))

-- ---- and no other number has it

abbrev Under : List Item → ℕ → List Item → ℕ → Entry → Type 0
Under items n xs i e = (y : Item) × (e ≡ entry_of items y) × (is_item_of xs y ≡ true) × (number_from n xs y ≡ n + i)

at_none : (e : Entry) (i : ℕ) → slice_get (slots_of []) i ≡ Some (Some e) → ⊥
at_none e zero h = cc
at_none e (suc i) h = cc

-- where an entry with a number or two stands first, what stands further on stands after it
after_narrow : (f : Entry) (others : List (Option Entry)) (i : ℕ) (e : Entry) → slice_get (Some f ∷ others) i
    ≡ Some (Some e)
    → ((i ≡ 0) × (e ≡ f)) ⊎ ((j : ℕ) × (i ≡ 1 + j) × (slice_get others j ≡ Some (Some e)))
after_narrow f others zero e h = inl (refl, cc)
after_narrow f others (suc i) e h = inr (i, omega arith, h)

after_wide : (f : Entry) (others : List (Option Entry)) (i : ℕ) (e : Entry) → slice_get (Some f ∷ None ∷ others) i
    ≡ Some (Some e)
    → ((i ≡ 0) × (e ≡ f)) ⊎ ((j : ℕ) × (i ≡ 2 + j) × (slice_get others j ≡ Some (Some e)))
after_wide f others zero e h = inl (refl, cc)
after_wide f others (suc zero) e h = absurd cc
after_wide f others (suc (suc i)) e h = inr (i, omega arith, h)

parted : (items : List Item) (x : Item) (others : List (Option Entry)) (i : ℕ) (e : Entry)
    → slice_get (under (entry_of items x) others) i ≡ Some (Some e)
    → ((i ≡ 0) × (e ≡ entry_of items x)) ⊎ ((j : ℕ) × (i ≡ numbers_taken x + j) × (slice_get others j ≡ Some (Some e)))
parted items x others i e h = elim (width items x others) [
  | inl n ↦ elim (after_narrow (entry_of items x) others i e (sym (ap (λ (s : List (Option Entry)). slice_get s i) n.0)
      ∙ h)) [
        | inl a ↦ inl a
        | inr b ↦ inr (b.0, omega (arith, b.1, n.1), b.2)
      ]
  | inr w ↦ elim (after_wide (entry_of items x) others i e (sym (ap (λ (s : List (Option Entry)). slice_get s i) w.0)
      ∙ h)) [
        | inl a ↦ inl a
        | inr b ↦ inr (b.0, omega (arith, b.1, w.1), b.2)
      ]
]

stands_under : (items : List Item) (n : ℕ) (xs : List Item) (i : ℕ) (e : Entry) → AreDifferent xs
    → slice_get (slots_of (map (entry_of items) xs)) i ≡ Some (Some e) → Under items n xs i e
stands_under items n [] i e different h = absurd (at_none e i h)
stands_under items n (x ∷ xs) i e different h = elim (parted items x (slots_of (map (entry_of items) xs)) i e h) [
  | inl a ↦ (x, a.1, among_first x xs, number_here n x x xs (same_self x) ∙ omega (arith, a.0))
  | inr b ↦
      let rest = stands_under items (n + numbers_taken x) xs b.0 e different.1 b.2 in
      let other : is_same_item rest.0 x ≡ false =
      false_from_ne_true (is_same_item rest.0 x) (λ s. true≢false (sym rest.2 ∙ ap (is_item_of xs) (same_is rest.0 x s)
      ∙ different.0)) in (
        rest.0,
        rest.1,
        or_right (is_same_item rest.0 x) (is_item_of xs rest.0) rest.2,
        number_after n x rest.0 xs other ∙ rest.3 ∙ omega (arith, b.1),
      )
]

-- the item whose entry stands under a number
pub item_under : (items : List Item) (n : ℕ) (e : Entry) → AreDifferent items → entry_at (entries_of items) n ≡ Some e
    → (y : Item) × (e ≡ entry_of items y) × (is_item_of items y ≡ true) × (number_of items y ≡ n)
item_under items zero e different h = absurd cc
item_under items (suc n) e different h =
    let u = stands_under items 1 items n e different (slot_held (slice_get (slots_of (entries_of items)) n) h) in
    (u.0, u.1, u.2, u.3 ∙ omega arith)
  where
    slot_held : (o : Option (Option Entry)) → held o ≡ Some e → o ≡ Some (Some e)
    slot_held None k = absurd cc
    slot_held (Some w) k = ap Some k
