-- Items that are among others, and lists of items that grow.
use Rattle.std.proofs.Common.{◌≡◌, ℕ, ℤ, ◌≤◌, true, false, ◌&&◌, ◌||◌, ◌⊎◌, List, [], ◌∷◌, ◌++◌, refl, sym, ◌∙◌, ap}
use Rattle.std.proofs.Common.{subst, inl, inr, append_assoc, append-nil, arith}
use Rattle.std.specs.Str.{bytes_eq}
use Rattle.std.specs.Ordering.{int_eq}
use Rattle.std.proofs.lemmas.Bool.{cases_Bool, and_parts, and_from, or_cases, or_from, or_left, or_right}
use Rattle.std.proofs.lemmas.Bool.{false_from_ne_true, true≢false}
use Rattle.std.proofs.lemmas.Bool.Decides.{Decides-int_eq}
use Rattle.std.proofs.lemmas.List.Sums.{sum_by-append}
use Rattle.std.proofs.lemmas.Slice.Eq.{bytes_eq-Decides}
use Rattle.model.specs.ClassFiles.Items.{Item, is_same_member, is_same_item, is_item_of, with_item, with_items}
use Rattle.model.specs.ClassFiles.Items.{numbers_taken, items_count}
use Rattle.model.specs.ClassFiles.Items.Item.{text_item, int_item, long_item, class_item, name_item, field_item}
use Rattle.model.specs.ClassFiles.Items.Item.{method_item, interface_item}
use Rattle.model.specs.declared.names.Member.{Member}
use Rattle.assembler.specs.Numbering.{named_by, are_items_of, AreClosedAfter, AreClosed}

-- ---- items that say the same

same_bytes : (a : List ℕ) → bytes_eq a a ≡ true
same_bytes a = (bytes_eq-Decides a a).1 refl

same_number : (z : ℤ) → int_eq z z ≡ true
same_number z = (Decides-int_eq z z).1 refl

same_member : (m : Member) → is_same_member m m ≡ true
same_member m = rw (same_bytes m.class, same_bytes m.name, same_bytes m.descriptor) refl

pub same_self : (x : Item) → is_same_item x x ≡ true
same_self (text_item text) = same_bytes text
same_self (int_item z) = same_number z
same_self (long_item z) = same_number z
same_self (class_item name) = same_bytes name
same_self (name_item name descriptor) = rw (same_bytes name, same_bytes descriptor) refl
same_self (field_item m) = same_member m
same_self (method_item m) = same_member m
same_self (interface_item m) = same_member m

same_parts : (a b : Member) → a.class ≡ b.class → a.name ≡ b.name → a.descriptor ≡ b.descriptor → a ≡ b
same_parts a b class name descriptor =
    ap (λ (c : List ℕ). record { class = c; name = a.name; descriptor = a.descriptor }) class
    ∙ ap (λ (n : List ℕ). record { class = b.class; name = n; descriptor = a.descriptor }) name
    ∙ ap (λ (d : List ℕ). record { class = b.class; name = b.name; descriptor = d }) descriptor

is_member : (a b : Member) → is_same_member a b ≡ true → a ≡ b
is_member a b h =
    let first = and_parts (bytes_eq a.class b.class && bytes_eq a.name b.name) (bytes_eq a.descriptor b.descriptor) h in
    let second = and_parts (bytes_eq a.class b.class) (bytes_eq a.name b.name) first.0 in
    same_parts a b ((bytes_eq-Decides a.class b.class).0 second.0) ((bytes_eq-Decides a.name b.name).0 second.1)
    ((bytes_eq-Decides a.descriptor b.descriptor).0 first.1)

-- items that are the same are one
pub same_is : (x y : Item) → is_same_item x y ≡ true → x ≡ y
same_is (text_item a) (text_item b) h = ap text_item ((bytes_eq-Decides a b).0 h)
same_is (int_item a) (int_item b) h = ap int_item ((Decides-int_eq a b).0 h)
same_is (long_item a) (long_item b) h = ap long_item ((Decides-int_eq a b).0 h)
same_is (class_item a) (class_item b) h = ap class_item ((bytes_eq-Decides a b).0 h)
same_is (name_item a b) (name_item m n) h =
    let both = and_parts (bytes_eq a m) (bytes_eq b n) h in
    ap (λ c. name_item c b) ((bytes_eq-Decides a m).0 both.0) ∙ ap (name_item m) ((bytes_eq-Decides b n).0 both.1)
same_is (field_item a) (field_item b) h = ap field_item (is_member a b h)
same_is (method_item a) (method_item b) h = ap method_item (is_member a b h)
same_is (interface_item a) (interface_item b) h = ap interface_item (is_member a b h)
same_is x y h = absurd cc

pub same_turned : (x y : Item) → is_same_item x y ≡ false → is_same_item y x ≡ false
same_turned x y h = false_from_ne_true (is_same_item y x)
    (λ e. true≢false (sym (same_self x) ∙ ap (is_same_item x) (sym (same_is y x e)) ∙ h))

-- ---- items that are among others

pub among-append : (xs ys : List Item) (x : Item) → is_item_of (xs ++ ys) x ≡ (is_item_of xs x || is_item_of ys x)
among-append [] ys x = refl
among-append (y ∷ xs) ys x = elim (cases_Bool (is_same_item x y)) [
  | inl t ↦ rw t refl
  | inr f ↦ rw f (among-append xs ys x)
]

pub among_left : (xs ys : List Item) (x : Item) → is_item_of xs x ≡ true → is_item_of (xs ++ ys) x ≡ true
among_left xs ys x h = among-append xs ys x ∙ or_left (is_item_of xs x) (is_item_of ys x) h

pub among_right : (xs ys : List Item) (x : Item) → is_item_of ys x ≡ true → is_item_of (xs ++ ys) x ≡ true
among_right xs ys x h = among-append xs ys x ∙ or_right (is_item_of xs x) (is_item_of ys x) h

pub among_cases : (xs ys : List Item) (x : Item) → is_item_of (xs ++ ys) x ≡ true
    → (is_item_of xs x ≡ true) ⊎ (is_item_of ys x ≡ true)
among_cases xs ys x h = or_cases (is_item_of xs x) (is_item_of ys x) (sym (among-append xs ys x) ∙ h)

pub among_first : (x : Item) (xs : List Item) → is_item_of (x ∷ xs) x ≡ true
among_first x xs = or_left (is_same_item x x) (is_item_of xs x) (same_self x)

-- one of several items that are all among some
pub one_of : (items xs : List Item) (x : Item) → are_items_of items xs ≡ true → is_item_of xs x ≡ true
    → is_item_of items x ≡ true
one_of items [] x all h = absurd (true≢false (sym h))
one_of items (y ∷ xs) x all h =
    let both = and_parts (is_item_of items y) (are_items_of items xs) all in
    elim (or_cases (is_same_item x y) (is_item_of xs x) h) [
      | inl t ↦ ap (is_item_of items) (same_is x y t) ∙ both.0
      | inr r ↦ one_of items xs x both.1 r
    ]

pub all_from : (items xs : List Item) → ((x : Item) → is_item_of xs x ≡ true → is_item_of items x ≡ true)
    → are_items_of items xs ≡ true
all_from items [] each = refl
all_from items (y ∷ xs) each =
    and_from (is_item_of items y) (are_items_of items xs) (each y (among_first y xs))
    (all_from items xs (λ x h. each x (or_right (is_same_item x y) (is_item_of xs x) h)))

pub all_left : (items more xs : List Item) → are_items_of items xs ≡ true → are_items_of (items ++ more) xs ≡ true
all_left items more xs all = all_from (items ++ more) xs (λ x h. among_left items more x (one_of items xs x all h))

-- ---- items that were added

pub item_new : (items : List Item) (x : Item) → is_item_of items x ≡ false → with_item items x ≡ items ++ x ∷ []
item_new items x h = rw h refl

pub item_known : (items : List Item) (x : Item) → is_item_of items x ≡ true → with_item items x ≡ items
item_known items x h = rw h refl

pub with_item_keeps : (items : List Item) (x y : Item) → is_item_of items y ≡ true → is_item_of (with_item items x) y
    ≡ true
with_item_keeps items x y h = elim (cases_Bool (is_item_of items x)) [
  | inl t ↦ ap (λ (xs : List Item). is_item_of xs y) (item_known items x t) ∙ h
  | inr f ↦ ap (λ (xs : List Item). is_item_of xs y) (item_new items x f) ∙ among_left items (x ∷ []) y h
]

pub with_item_has : (items : List Item) (x : Item) → is_item_of (with_item items x) x ≡ true
with_item_has items x = elim (cases_Bool (is_item_of items x)) [
  | inl t ↦ ap (λ (xs : List Item). is_item_of xs x) (item_known items x t) ∙ t
  | inr f ↦ ap (λ (xs : List Item). is_item_of xs x) (item_new items x f)
      ∙ among_right items (x ∷ []) x (among_first x [])
]

with_item_only : (items : List Item) (x y : Item) → is_item_of (with_item items x) y ≡ true
    → (is_item_of items y ≡ true) ⊎ (is_same_item y x ≡ true)
with_item_only items x y h = elim (cases_Bool (is_item_of items x)) [
  | inl t ↦ inl (sym (ap (λ (xs : List Item). is_item_of xs y) (item_known items x t)) ∙ h)
  | inr f ↦ elim (among_cases items (x ∷ []) y (sym (ap (λ (xs : List Item). is_item_of xs y) (item_new items x f))
      ∙ h)) [
        | inl l ↦ inl l
        | inr r ↦ elim (or_cases (is_same_item y x) false r) [ inl s ↦ inr s | inr n ↦ absurd (true≢false (sym n)) ]
      ]
]

pub with_items_keep : (items xs : List Item) (y : Item) → is_item_of items y ≡ true → is_item_of (with_items items xs) y
    ≡ true
with_items_keep items [] y h = h
with_items_keep items (x ∷ xs) y h = with_items_keep (with_item items x) xs y (with_item_keeps items x y h)

-- each item that was added is there
pub with_items_have : (items xs : List Item) (y : Item) → is_item_of xs y ≡ true → is_item_of (with_items items xs) y
    ≡ true
with_items_have items [] y h = absurd (true≢false (sym h))
with_items_have items (x ∷ xs) y h = elim (or_cases (is_same_item y x) (is_item_of xs y) h) [
  | inl s ↦ with_items_keep (with_item items x) xs y (ap (is_item_of (with_item items x)) (same_is y x s)
      ∙ with_item_has items x)
  | inr r ↦ with_items_have (with_item items x) xs y r
]

-- and no other that wasn't there
pub with_items_only : (items xs : List Item) (y : Item) → is_item_of (with_items items xs) y ≡ true
    → (is_item_of items y ≡ true) ⊎ (is_item_of xs y ≡ true)
with_items_only items [] y h = inl h
with_items_only items (x ∷ xs) y h = elim (with_items_only (with_item items x) xs y h) [
  | inl l ↦ elim (with_item_only items x y l) [
    | inl k ↦ inl k
    | inr s ↦ inr (or_left (is_same_item y x) (is_item_of xs y) s)
  ]
  | inr r ↦ inr (or_right (is_same_item y x) (is_item_of xs y) r)
]

pub with_items-append : (items xs ys : List Item) → with_items items (xs ++ ys) ≡ with_items (with_items items xs) ys
with_items-append items [] ys = refl
with_items-append items (x ∷ xs) ys = with_items-append (with_item items x) xs ys

-- all items of a part are among those with the whole
pub all_added : (items xs : List Item) → are_items_of (with_items items xs) xs ≡ true
all_added items xs = all_from (with_items items xs) xs (λ x h. with_items_have items xs x h)

pub all_kept : (items more xs : List Item) → are_items_of items xs ≡ true → are_items_of (with_items items more) xs
    ≡ true
all_kept items more xs all = all_from (with_items items more) xs
    (λ x h. with_items_keep items more x (one_of items xs x all h))

-- ---- items that follow those that they name

pub closed-append : (before xs ys : List Item) → AreClosedAfter before xs → AreClosedAfter (before ++ xs) ys
    → AreClosedAfter before (xs ++ ys)
closed-append before [] ys left right = subst (λ zs. AreClosedAfter zs ys) (append-nil before) right
closed-append before (x ∷ xs) ys left right = (
  left.0,
  left.1,
  closed-append (before ++ x ∷ []) xs ys left.2
      (subst (λ zs. AreClosedAfter zs ys) (sym (append_assoc before (x ∷ []) xs)) right),
)

-- closed items with one more whose names are there
pub closed_grows : (items : List Item) (x : Item) → AreClosed items → are_items_of items (named_by x) ≡ true
    → AreClosed (with_item items x)
closed_grows items x closed named = elim (cases_Bool (is_item_of items x)) [
  | inl t ↦ subst AreClosed (sym (item_known items x t)) closed
  | inr f ↦ subst AreClosed (sym (item_new items x f)) (closed-append [] items (x ∷ []) closed (named, f, tt))
]

named_after : (before xs : List Item) (x : Item) → AreClosedAfter before xs → is_item_of xs x ≡ true
    → are_items_of (before ++ xs) (named_by x) ≡ true
named_after before [] x closed h = absurd (true≢false (sym h))
named_after before (y ∷ xs) x closed h = elim (or_cases (is_same_item x y) (is_item_of xs x) h) [
  | inl s ↦ all_left before (y ∷ xs) (named_by x) (ap (λ z. are_items_of before (named_by z)) (same_is x y s)
      ∙ closed.0)
  | inr r ↦ ap (λ zs. are_items_of zs (named_by x)) (sym (append_assoc before (y ∷ []) xs))
      ∙ named_after (before ++ y ∷ []) xs x closed.2 r
]

-- of closed items each one's names are there
pub named_are : (items : List Item) (x : Item) → AreClosed items → is_item_of items x ≡ true
    → are_items_of items (named_by x) ≡ true
named_are items x closed h = named_after [] items x closed h

-- ---- items that are different

-- each stands once
abbrev pub AreDifferent : List Item → Type 0
AreDifferent [] = Unit {0}
AreDifferent (x ∷ xs) = (is_item_of xs x ≡ false) × AreDifferent xs

not_after : (before xs : List Item) (y : Item) → AreClosedAfter before xs → is_item_of before y ≡ true → is_item_of xs y
    ≡ false
not_after before [] y closed h = refl
not_after before (x ∷ xs) y closed h =
    or_from (is_same_item y x) (is_item_of xs y)
    (false_from_ne_true (is_same_item y x) (λ s. true≢false (sym h ∙ ap (is_item_of before) (same_is y x s)
    ∙ closed.1)))
    (not_after (before ++ x ∷ []) xs y closed.2 (among_left before (x ∷ []) y h))

closed_after_different : (before xs : List Item) → AreClosedAfter before xs → AreDifferent xs
closed_after_different before [] closed = tt
closed_after_different before (x ∷ xs) closed = (
  not_after (before ++ x ∷ []) xs x closed.2 (among_right before (x ∷ []) x (among_first x [])),
  closed_after_different (before ++ x ∷ []) xs closed.2,
)

pub closed_are_different : (items : List Item) → AreClosed items → AreDifferent items
closed_are_different items closed = closed_after_different [] items closed

-- ---- counts

pub count_grows : (items : List Item) (x : Item) → items_count items ≤ items_count (with_item items x)
count_grows items x = elim (cases_Bool (is_item_of items x)) [
  | inl t ↦ subst (λ xs. items_count items ≤ items_count xs) (sym (item_known items x t)) (omega arith)
  | inr f ↦ subst (λ xs. items_count items ≤ items_count xs) (sym (item_new items x f))
      (omega (arith, sum_by-append numbers_taken items (x ∷ [])))
]

-- a pool is no smaller with more in it
pub counts_grow : (items xs : List Item) → items_count items ≤ items_count (with_items items xs)
counts_grow items [] = omega arith
counts_grow items (x ∷ xs) = omega (arith, count_grows items x, counts_grow (with_item items x) xs)
