-- A pool of items that grows by an entry.
use Rattle.std.proofs.Common.{◌≡◌, ℕ, ℤ, ◌^◌, ◌≤◌, ◌<◌, true, false, ◌&&◌, ◌↔◌, List, [], ◌∷◌, ◌++◌, map, Some, Result}
use Rattle.std.proofs.Common.{Ok, Err, refl, sym, ◌∙◌, ap, subst, inl, inr, eqb, arith}
use Rattle.std.proofs.lemmas.Bool.{cases_Bool, and_parts, and_from, or_cases, or_left, or_right, false_from_ne_true}
use Rattle.std.proofs.lemmas.Bool.{true≢false, eq-eqb}
use Rattle.std.proofs.lemmas.Bool.Decides.{Decides-int_eq}
use Rattle.std.proofs.lemmas.List.{map-append}
use Rattle.std.proofs.lemmas.Slice.Eq.{bytes_eq-Decides}
use Rattle.pool.proofs.EqualEntries.{same_is as equal_is}
use Rattle.model.specs.ClassFiles.Pools.{entry_at, pool_count}
use Rattle.model.specs.ClassFiles.Adding.{is_same, is_among, added}
use Rattle.model.specs.ClassFiles.Items.{Item, is_same_item, is_item_of, with_item, with_items, items_count}
use Rattle.model.specs.ClassFiles.Items.Item.{text_item, int_item, long_item, class_item, name_item, field_item}
use Rattle.model.specs.ClassFiles.Items.Item.{method_item, interface_item}
use Rattle.model.specs.declared.class_files.Entry.{Entry}
use Rattle.model.specs.declared.class_files.Entry.TheVariants.{Utf8, Integer, Long, Class, Fieldref, Methodref}
use Rattle.model.specs.declared.class_files.Entry.TheVariants.{InterfaceMethodref, NameAndType}
use Rattle.model.specs.declared.names.Member.{Member}
use Rattle.pool.specs.declared.builder.AddError.{AddError}
use Rattle.pool.specs.declared.builder.AddError.TheVariants as error
use Rattle.assembler.specs.Assembled.{Stays}
use Rattle.assembler.specs.Numbering.{number_of, entry_of, entries_of, item_of, items_of, named_by, are_items_of}
use Rattle.assembler.specs.Numbering.{AreClosed, IsPool, said, IsEntry, reference_items, reference_numbers}
use Rattle.assembler.proofs.NumberingItems.{same_is as same_item_is, same_self, with_items_have, one_of, among_first}
use Rattle.assembler.proofs.NumberingItems.{named_are, closed_are_different, item_new, item_known, with_item_has}
use Rattle.assembler.proofs.NumberingItems.{closed_grows, all_added}
use Rattle.assembler.proofs.NumberingEntries.{item_under, number_left, count_is}
use Rattle.assembler.proofs.NumberingNames.{one_entry, says, items_back, reference_parts}

-- ---- an entry stays what it was

text_still : (items more : List Item) (text : List ℕ) → are_items_of items (text_item text ∷ []) ≡ true
    → number_of (items ++ more) (text_item text) ≡ number_of items (text_item text)
text_still items more text h = number_left 1 items more (text_item text)
    (one_of items (text_item text ∷ []) (text_item text) h (among_first (text_item text) []))

reference_still : (make : ℕ → ℕ → Entry) (items more : List Item) (m : Member)
    → are_items_of items (class_item m.class ∷ name_item m.name m.descriptor ∷ []) ≡ true
    → make (number_of (items ++ more) (class_item m.class)) (number_of (items ++ more) (name_item m.name m.descriptor))
    ≡ make (number_of items (class_item m.class)) (number_of items (name_item m.name m.descriptor))
reference_still make items more m h =
    let parts = reference_parts items m h in
    ap (λ k. make k (number_of (items ++ more) (name_item m.name m.descriptor)))
    (number_left 1 items more (class_item m.class) parts.0)
    ∙ ap (make (number_of items (class_item m.class))) (number_left 1 items more (name_item m.name m.descriptor)
    parts.1)

entry_still : (items more : List Item) (x : Item) → are_items_of items (named_by x) ≡ true → entry_of (items ++ more) x
    ≡ entry_of items x
entry_still items more (text_item text) h = refl
entry_still items more (int_item z) h = refl
entry_still items more (long_item z) h = refl
entry_still items more (class_item name) h = ap Class (text_still items more name h)
entry_still items more (name_item name descriptor) h =
    let both = and_parts (is_item_of items (text_item name)) (are_items_of items (text_item descriptor ∷ [])) h in
    ap (λ k. NameAndType k (number_of (items ++ more) (text_item descriptor)))
    (number_left 1 items more (text_item name) both.0)
    ∙ ap (NameAndType (number_of items (text_item name))) (text_still items more descriptor both.1)
entry_still items more (field_item m) h = reference_still Fieldref items more m h
entry_still items more (method_item m) h = reference_still Methodref items more m h
entry_still items more (interface_item m) h = reference_still InterfaceMethodref items more m h

entries_still : (items more xs : List Item) → AreClosed items
    → ((x : Item) → is_item_of xs x ≡ true → is_item_of items x ≡ true) → map (entry_of (items ++ more)) xs
    ≡ map (entry_of items) xs
entries_still items more [] closed each = refl
entries_still items more (x ∷ xs) closed each =
    ap (λ e. e ∷ map (entry_of (items ++ more)) xs)
    (entry_still items more x (named_are items x closed (each x (among_first x xs))))
    ∙ ap (λ es. entry_of items x ∷ es)
    (entries_still items more xs closed (λ y h. each y (or_right (is_same_item y x) (is_item_of xs y) h)))

entries_grow : (items : List Item) (x : Item) → AreClosed items → are_items_of items (named_by x) ≡ true
    → entries_of (items ++ x ∷ []) ≡ entries_of items ++ entry_of items x ∷ []
entries_grow items x closed named =
    map-append (entry_of (items ++ x ∷ [])) items (x ∷ [])
    ∙ ap (λ es. es ++ entry_of (items ++ x ∷ []) x ∷ []) (entries_still items (x ∷ []) items closed (λ y h. h))
    ∙ ap (λ e. entries_of items ++ e ∷ []) (entry_still items (x ∷ []) x named)

-- ---- an entry is among the entries where its item is among the items

equal_pair : (a b : ℕ) → (eqb a a && eqb b b) ≡ true
equal_pair a b = rw (eq-eqb a a refl, eq-eqb b b refl) refl

equal_self : (e : Entry) → is_same e e ≡ true
equal_self (Utf8 text) = (bytes_eq-Decides text text).1 refl
equal_self (Integer z) = (Decides-int_eq z z).1 refl
equal_self (Long z) = (Decides-int_eq z z).1 refl
equal_self (Class name) = eq-eqb name name refl
equal_self (Fieldref class member) = equal_pair class member
equal_self (Methodref class member) = equal_pair class member
equal_self (InterfaceMethodref class member) = equal_pair class member
equal_self (NameAndType name descriptor) = equal_pair name descriptor

among_entries : (items xs : List Item) (x : Item) → is_item_of xs x ≡ true
    → is_among (entry_of items x) (map (entry_of items) xs) ≡ true
among_entries items [] x h = absurd (true≢false (sym h))
among_entries items (y ∷ xs) x h = elim (or_cases (is_same_item x y) (is_item_of xs x) h) [
  | inl s ↦ or_left (is_same (entry_of items x) (entry_of items y))
      (is_among (entry_of items x) (map (entry_of items) xs))
      (ap (λ (z : Item). is_same (entry_of items x) (entry_of items z)) (sym (same_item_is x y s))
      ∙ equal_self (entry_of items x))
  | inr r ↦ or_right (is_same (entry_of items x) (entry_of items y))
      (is_among (entry_of items x) (map (entry_of items) xs)) (among_entries items xs x r)
]

among_items : (items xs : List Item) (e : Entry) → is_among e (map (entry_of items) xs) ≡ true → (y : Item)
    × (is_item_of xs y ≡ true) × (e ≡ entry_of items y)
among_items items [] e h = absurd (true≢false (sym h))
among_items items (y ∷ xs) e h = elim (or_cases (is_same e (entry_of items y)) (is_among e (map (entry_of items) xs))
    h) [
      | inl s ↦ (y, among_first y xs, equal_is e (entry_of items y) s)
      | inr r ↦
          let rest = among_items items xs e r in
          (rest.0, or_right (is_same_item rest.0 y) (is_item_of xs rest.0) rest.1, rest.2)
    ]

-- an entry is added as its item is
pub added_is : (items : List Item) (x : Item) → AreClosed items → are_items_of items (named_by x) ≡ true
    → added (entries_of items) (entry_of items x) ≡ entries_of (with_item items x)
added_is items x closed named = elim (cases_Bool (is_item_of items x)) [
  | inl t ↦ entry_known (entry_of items x) (entries_of items) (among_entries items items x t)
      ∙ ap entries_of (sym (item_known items x t))
  | inr f ↦
      let new : is_among (entry_of items x) (entries_of items) ≡ false =
      false_from_ne_true (is_among (entry_of items x) (entries_of items))
      (λ a. not_there f (among_items items items (entry_of items x) a)) in
      entry_new (entry_of items x) (entries_of items) new ∙ sym (entries_grow items x closed named)
      ∙ ap entries_of (sym (item_new items x f))
]
  where
    entry_known : (e : Entry) (es : List Entry) → is_among e es ≡ true → added es e ≡ es
    entry_known e es h = rw h refl

    entry_new : (e : Entry) (es : List Entry) → is_among e es ≡ false → added es e ≡ es ++ e ∷ []
    entry_new e es h = rw h refl

    not_there : is_item_of items x ≡ false → (y : Item) × (is_item_of items y ≡ true)
        × (entry_of items x ≡ entry_of items y) → ⊥
    not_there f s = true≢false (sym s.1
        ∙ ap (is_item_of items) (sym (one_entry items x s.0 closed named (named_are items s.0 closed s.1) s.2)) ∙ f)

-- ---- a pool with one entry more

-- what an entry of an item says
pub entry_says : (items : List Item) (e : Entry) (x : Item) → AreClosed items → are_items_of items (named_by x) ≡ true
    → e ≡ entry_of items x → IsEntry items e × (said items e ≡ x)
unfolding said
entry_says items e x closed named is =
    let same : said items e ≡ x = ap (item_of (entries_of items)) is ∙ says items x closed named in (
      record {
        entry_is = is ∙ ap (entry_of items) (sym same);
        named = ap (λ y. are_items_of items (named_by y)) same ∙ named;
      },
      same,
    )

-- entries are those of items that can be a pool
abbrev pub Holds : List Entry → List Item → Type 0
Holds entries items = (entries ≡ entries_of items) × IsPool items

-- the entries and the items after one more
pub grown : (entries more : List Entry) (items : List Item) (e : Entry) → Holds entries items → IsEntry items e
    → more ≡ added entries e → (2 ^ 16 ≤ pool_count (added entries e) → ⊥)
    → Holds more (with_item items (said items e))
grown entries more items e held of are room =
    let x = said items e in
    let added_are : added entries e ≡ entries_of (with_item items x) =
    ap (λ es. added es e) held.0 ∙ ap (added (entries_of items)) of.entry_is ∙ added_is items x held.1.closed of.named
    in (
      are ∙ added_are,
      record {
        closed = closed_grows items x held.1.closed of.named;
        fits = few (pool_count (added entries e)) (items_count (with_item items x)) (ap pool_count added_are
            ∙ count_is (with_item items x)) room;
      },
    )
  where
    few : (m n : ℕ) → m ≡ n → (2 ^ 16 ≤ m → ⊥) → n < 2 ^ 16
    few m n is not = grind arith

-- the view of such entries
pub seen : (entries : List Entry) (items : List Item) → Holds entries items → items_of entries ≡ items
seen entries items held = ap items_of held.0 ∙ items_back items held.1.closed

pub still_held : (entries : List Entry) (items : List Item) → Holds entries items → Holds entries (items_of entries)
still_held entries items held = subst (Holds entries) (sym (seen entries items held)) held

entry_with : (items : List Item) (x y : Item) → are_items_of items (named_by y) ≡ true → entry_of (with_item items x) y
    ≡ entry_of items y
entry_with items x y named = elim (cases_Bool (is_item_of items x)) [
  | inl t ↦ ap (λ xs. entry_of xs y) (item_known items x t)
  | inr f ↦ ap (λ xs. entry_of xs y) (item_new items x f) ∙ entry_still items (x ∷ []) y named
]

-- the number of the entry
pub number_is : (more : List Entry) (items : List Item) (e : Entry) (n : ℕ) → IsEntry items e
    → Holds more (with_item items (said items e)) → entry_at more n ≡ Some e
    → n ≡ number_of (with_item items (said items e)) (said items e)
number_is more items e n of held at =
    let x = said items e in
    let all = with_item items x in
    let closed = held.1.closed in
    let u = item_under all n e (closed_are_different all closed) (ap (λ es. entry_at es n) (sym held.0) ∙ at) in
    let same : x ≡ u.0 =
    one_entry all x u.0 closed (named_are all x closed (with_item_has items x)) (named_are all u.0 closed u.2)
    (entry_with items x x of.named ∙ sym of.entry_is ∙ u.1) in
    sym u.3 ∙ ap (number_of all) (sym same)

-- what adding an entry comes to
pub entry_added : (entries more : List Entry) (items : List Item) (e : Entry) (n : ℕ) → Holds entries items
    → IsEntry items e → more ≡ added entries e → (2 ^ 16 ≤ pool_count (added entries e) → ⊥) → entry_at more n ≡ Some e
    → (items_of more ≡ with_item items (said items e)) × (n ≡ number_of (items_of more) (said items e))
    × Holds more (items_of more)
entry_added entries more items e n held of are room at =
    let all = grown entries more items e held of are room in
    let view : items_of more ≡ with_item items (said items e) = seen more (with_item items (said items e)) all in (
      view,
      number_is more items e n of all at ∙ ap (λ xs. number_of xs (said items e)) (sym view),
      still_held more (with_item items (said items e)) all,
    )

pub count_added : (entries : List Entry) (items : List Item) (e : Entry) → Holds entries items → IsEntry items e
    → pool_count (added entries e) ≡ items_count (with_item items (said items e))
count_added entries items e held of =
    ap (λ es. pool_count (added es e)) held.0
    ∙ ap (λ f. pool_count (added (entries_of items) f)) of.entry_is
    ∙ ap pool_count (added_is items (said items e) held.1.closed of.named)
    ∙ count_is (with_item items (said items e))

-- ---- the builder's answers

-- what adding an entry to the pool of items told, where it was added
pub reported_added : (entries more : List Entry) (items : List Item) (e : Entry) (n : ℕ) (r : Result ℕ AddError)
    → items_of entries ≡ items → Holds entries (items_of entries) → IsEntry items e → r ≡ Ok n
    → (more ≡ added entries e) × (entry_at more n ≡ Some e)
    → ((r ≡ Err error.Full) ↔ (2 ^ 16 ≤ pool_count (added entries e)))
    → (items_of more ≡ with_item items (said items e)) × (n ≡ number_of (items_of more) (said items e))
    × Holds more (items_of more)
reported_added entries more items e n r view held of ok are full =
    entry_added entries more items e n (subst (Holds entries) view held) of are.0 (room r ok full) are.1
  where
    room : (q : Result ℕ AddError) → q ≡ Ok n → ((q ≡ Err error.Full) ↔ (2 ^ 16 ≤ pool_count (added entries e)))
        → 2 ^ 16 ≤ pool_count (added entries e) → ⊥
    room q is iff h = let wrong : Ok n ≡ Err error.Full = sym is ∙ iff.1 h in cc

-- and where it wasn't, though it has room
pub reported_memory : (entries : List Entry) (items : List Item) (e : Entry) (r : Result ℕ AddError) (fault : AddError)
    → items_of entries ≡ items → Holds entries (items_of entries) → IsEntry items e → r ≡ Err fault
    → ((r ≡ Err error.Full) ↔ (2 ^ 16 ≤ pool_count (added entries e)))
    → (2 ^ 16 ≤ items_count (with_item items (said items e)) → ⊥) → fault ≡ error.Memory
reported_memory entries items e r error.Memory view held of is full room = refl
reported_memory entries items e r error.Full view held of is full room =
    absurd (room (subst (λ k. 2 ^ 16 ≤ k) (count_added entries items e (subst (Holds entries) view held) of)
    (full.0 is)))

-- ---- what an entry says by the numbers that it has

pub text_entry : (items : List Item) (copy text : List ℕ) → copy ≡ text → IsEntry items (Utf8 copy)
    × (said items (Utf8 copy) ≡ text_item text)
unfolding said
text_entry items copy text is = (record { entry_is = refl; named = refl }, ap text_item is)

pub int_entry : (items : List Item) (z value : ℤ) → z ≡ value → IsEntry items (Integer z)
    × (said items (Integer z) ≡ int_item value)
unfolding said
int_entry items z value is = (record { entry_is = refl; named = refl }, ap int_item is)

pub long_entry : (items : List Item) (z value : ℤ) → z ≡ value → IsEntry items (Long z)
    × (said items (Long z) ≡ long_item value)
unfolding said
long_entry items z value is = (record { entry_is = refl; named = refl }, ap long_item is)

-- an entry that has the numbers of what its item names, which was added last
made_entry : (before added items : List Item) (e : Entry) (x : Item) → IsPool items → with_items before added ≡ items
    → are_items_of (with_items before added) (named_by x) ≡ true → e ≡ entry_of items x
    → IsEntry items e × (said items e ≡ x)
made_entry before added items e x pool grown named is = entry_says items e x pool.closed
    (ap (λ xs. are_items_of xs (named_by x)) (sym grown) ∙ named) is

pub class_entry : (before items : List Item) (name : List ℕ) (n : ℕ) → IsPool items
    → Stays before (text_item name ∷ []) items (λ items. number_of items (text_item name)) n
    → IsEntry items (Class n) × (said items (Class n) ≡ class_item name)
class_entry before items name n pool h =
    made_entry before (text_item name ∷ []) items (Class n) (class_item name) pool (h []).0
    (all_added before (text_item name ∷ [])) (ap Class (h []).1)

pub name_entry : (before items : List Item) (name descriptor : List ℕ) (m n : ℕ) → IsPool items
    → Stays {A = ℕ × ℕ} before (text_item name ∷ text_item descriptor ∷ []) items
    (λ items. (number_of items (text_item name), number_of items (text_item descriptor))) (m, n)
    → IsEntry items (NameAndType m n) × (said items (NameAndType m n) ≡ name_item name descriptor)
name_entry before items name descriptor m n pool h =
    made_entry before (text_item name ∷ text_item descriptor ∷ []) items (NameAndType m n) (name_item name descriptor)
    pool (h []).0 (all_added before (text_item name ∷ text_item descriptor ∷ []))
    (ap (λ (p : ℕ × ℕ). NameAndType p.0 p.1) (h []).1)

-- what a reference to a member names was added
pub references_there : (before : List Item) (m : Member)
    → are_items_of (with_items before (reference_items m)) (class_item m.class ∷ name_item m.name m.descriptor ∷ [])
    ≡ true
references_there before m =
    let items = with_items before (reference_items m) in
    let class = with_items_have before (reference_items m) (class_item m.class)
    (or_left (is_same_item (class_item m.class) (class_item m.class)) _ (same_self (class_item m.class))) in
    let names =
    with_items_have before (reference_items m) (name_item m.name m.descriptor)
    (or_left (is_same_item (name_item m.name m.descriptor) (name_item m.name m.descriptor)) false
    (same_self (name_item m.name m.descriptor))) in
    and_from (is_item_of items (class_item m.class)) (are_items_of items (name_item m.name m.descriptor ∷ [])) class
    (and_from (is_item_of items (name_item m.name m.descriptor)) true names refl)

-- a reference's numbers
abbrev pub ReportedReference : List Item → List Item → Member → ℕ → ℕ → Type 0
ReportedReference before items m class names = Stays {A = ℕ × ℕ} before (reference_items m) items (reference_numbers m)
    (class, names)

reference_entry : (make : ℕ → ℕ → Entry) (before items : List Item) (m : Member) (x : Item) (class names : ℕ)
    → IsPool items → ReportedReference before items m class names
    → named_by x ≡ class_item m.class ∷ name_item m.name m.descriptor ∷ [] → entry_of items x
    ≡ make (number_of items (class_item m.class)) (number_of items (name_item m.name m.descriptor))
    → IsEntry items (make class names) × (said items (make class names) ≡ x)
reference_entry make before items m x class names pool h named is =
    made_entry before (reference_items m) items (make class names) x pool (h []).0
    (ap (are_items_of (with_items before (reference_items m))) named ∙ references_there before m)
    (ap (λ (p : ℕ × ℕ). make p.0 p.1) (h []).1 ∙ sym is)

pub field_entry : (before items : List Item) (m : Member) (class names : ℕ) → IsPool items
    → ReportedReference before items m class names
    → IsEntry items (Fieldref class names) × (said items (Fieldref class names) ≡ field_item m)
field_entry before items m class names pool h = reference_entry Fieldref before items m (field_item m) class names pool
    h refl refl

pub method_entry : (before items : List Item) (m : Member) (class names : ℕ) → IsPool items
    → ReportedReference before items m class names
    → IsEntry items (Methodref class names) × (said items (Methodref class names) ≡ method_item m)
method_entry before items m class names pool h = reference_entry Methodref before items m (method_item m) class names
    pool h refl refl

pub interface_entry : (before items : List Item) (m : Member) (class names : ℕ) → IsPool items
    → ReportedReference before items m class names
    → IsEntry items (InterfaceMethodref class names) × (said items (InterfaceMethodref class names) ≡ interface_item m)
interface_entry before items m class names pool h = reference_entry InterfaceMethodref before items m (interface_item m)
    class names pool h refl refl

-- ---- the class file

-- a builder's entries are those of the items that it shows
pub builder_entries : (entries : List Entry) (items : List Item) → items_of entries ≡ items
    → entries ≡ entries_of (items_of entries) → entries ≡ entries_of items
builder_entries entries items view are = are ∙ ap entries_of view
