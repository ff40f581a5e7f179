-- The pool of a listing: it can be one, its count doesn't hang on the order, and the ints put first have small numbers.
use Rattle.std.proofs.Common.{◌≡◌, ℕ, ℤ, ◌+◌, ◌^◌, ◌≤◌, ◌<◌, true, false, List, [], ◌∷◌, ◌++◌, map, length, Option}
use Rattle.std.proofs.Common.{Some, None, refl, sym, ◌∙◌, ap, subst, inl, inr, arith, append_assoc, append-nil}
use Rattle.std.specs.Prelude.{sum_by, codes, if◌then◌else◌}
use Rattle.std.specs.List.{flat_map}
use Rattle.std.proofs.lemmas.Bool.{or_from, cases_Bool, or_cases, or_parts, or_left, or_right, false_from_ne_true}
use Rattle.std.proofs.lemmas.Bool.{true≢false}
use Rattle.std.proofs.lemmas.List.Sums.{sum_by-cons, sum_by-append}
use Rattle.model.specs.ClassListings.{ClassListing}
use Rattle.model.specs.CodeListings.{CodeListing}
use Rattle.model.specs.ClassFiles.Items.{Item, is_same_item, is_item_of, with_item, with_items, numbers_taken}
use Rattle.model.specs.ClassFiles.Items.{items_count, class_items, name_items, member_items, constant_items}
use Rattle.model.specs.ClassFiles.Items.{array_items, call_items, instruction_items, placed_items, catch_items}
use Rattle.model.specs.ClassFiles.Items.{row_items, code_items, method_items, value_items, field_items, listing_items}
use Rattle.model.specs.ClassFiles.Items.Item.{text_item, int_item, long_item, class_item, name_item, field_item}
use Rattle.model.specs.ClassFiles.Items.Item.{method_item, interface_item}
use Rattle.model.specs.Texts.Assembling.{pool_size}
use Rattle.model.specs.Table.Next.{Listed}
use Rattle.model.specs.declared.instructions.ArrayOperation.{ArrayOperation}
use Rattle.model.specs.declared.instructions.ArrayOperation.TheVariants as array
use Rattle.model.specs.declared.instructions.Constant.{Constant as Pushed}
use Rattle.model.specs.declared.instructions.Constant.TheVariants as pushed
use Rattle.model.specs.declared.instructions.Instruction.TheVariants as instruction
use Rattle.model.specs.declared.instructions.Invocation.{Invocation}
use Rattle.model.specs.declared.instructions.Invocation.TheVariants as invocation
use Rattle.model.specs.declared.listings.Constant.{Constant}
use Rattle.model.specs.declared.listings.Constant.TheVariants as constant
use Rattle.model.specs.declared.listings.Field.{Field}
use Rattle.model.specs.declared.listings.Method.{Method}
use Rattle.model.specs.declared.names.Member.{Member}
use Rattle.assembler.specs.Numbering.{number_from, number_of, named_by, are_items_of, AreClosed, IsPool}
use Rattle.assembler.proofs.NumberingItems.{same_self, same_is, same_turned, AreDifferent, one_of, all_from, among_left}
use Rattle.assembler.proofs.NumberingItems.{among_right, among_first, among_cases, item_new, item_known}
use Rattle.assembler.proofs.NumberingItems.{with_items_have, with_items_only, with_items-append, closed_grows}
use Rattle.assembler.proofs.NumberingEntries.{number_here, number_after, still_numbers}

-- ---- a listing's items can be a pool

-- items that go after closed ones
abbrev pub GoAfter : List Item → Type 0
GoAfter xs = (items : List Item) → AreClosed items → AreClosed (with_items items xs)

none_go : GoAfter []
none_go items closed = closed

both_go : (xs ys : List Item) → GoAfter xs → GoAfter ys → GoAfter (xs ++ ys)
both_go xs ys left right items closed = subst AreClosed (sym (with_items-append items xs ys))
    (right (with_items items xs) (left items closed))

-- an item that names nothing
alone_goes : (x : Item) → named_by x ≡ [] → GoAfter (x ∷ [])
alone_goes x none items closed = closed_grows items x closed (ap (are_items_of items) none)

-- an item whose names were just added
after_goes : (xs : List Item) (x : Item) → GoAfter xs → ((y : Item) → is_item_of (named_by x) y ≡ true → is_item_of xs y
    ≡ true) → GoAfter (xs ++ x ∷ [])
after_goes xs x go named items closed =
    let there : are_items_of (with_items items xs) (named_by x) ≡ true = all_from (with_items items xs) (named_by x)
    (λ y h. with_items_have items xs y (named y h)) in
    subst AreClosed (sym (with_items-append items xs (x ∷ []))) (closed_grows (with_items items xs) x (go items closed)
    there)

all_go : {A : Type 0} (f : A → List Item) (xs : List A) → ((x : A) → GoAfter (f x)) → GoAfter (flat_map f xs)
all_go f [] each = none_go
all_go f (x ∷ xs) each = both_go (f x) (flat_map f xs) (each x) (all_go f xs each)

pub text_goes : (text : List ℕ) → GoAfter (text_item text ∷ [])
text_goes text = alone_goes (text_item text) refl

pub int_goes : (z : ℤ) → GoAfter (int_item z ∷ [])
int_goes z = alone_goes (int_item z) refl

pub long_goes : (z : ℤ) → GoAfter (long_item z ∷ [])
long_goes z = alone_goes (long_item z) refl

pub class_goes : (name : List ℕ) → GoAfter (class_items name)
class_goes name = after_goes (text_item name ∷ []) (class_item name) (text_goes name) (λ y h. h)

pub name_goes : (name descriptor : List ℕ) → GoAfter (name_items name descriptor)
name_goes name descriptor =
    after_goes (text_item name ∷ text_item descriptor ∷ []) (name_item name descriptor)
    (both_go (text_item name ∷ []) (text_item descriptor ∷ []) (text_goes name) (text_goes descriptor)) (λ y h. h)

-- what a reference names is there
reference_named : (x : Item) (m : Member) → named_by x ≡ class_item m.class ∷ name_item m.name m.descriptor ∷ []
    → (y : Item) → is_item_of (named_by x) y ≡ true → is_item_of (class_items m.class ++ name_items m.name m.descriptor)
    y ≡ true
reference_named x m is y h =
    elim (or_cases (is_same_item y (class_item m.class)) (is_item_of (name_item m.name m.descriptor ∷ []) y)
    (sym (ap (λ xs. is_item_of xs y) is) ∙ h)) [
      | inl c ↦ among_left (class_items m.class) (name_items m.name m.descriptor) y
          (among_right (text_item m.class ∷ []) (class_item m.class ∷ []) y
          (or_left (is_same_item y (class_item m.class)) false c))
      | inr n ↦ among_right (class_items m.class) (name_items m.name m.descriptor) y
          (among_right (text_item m.name ∷ text_item m.descriptor ∷ []) (name_item m.name m.descriptor ∷ []) y n)
    ]

pub member_goes : (x : Item) (m : Member) → named_by x ≡ class_item m.class ∷ name_item m.name m.descriptor ∷ []
    → GoAfter (member_items x m)
member_goes x m is =
    after_goes (class_items m.class ++ name_items m.name m.descriptor) x
    (both_go (class_items m.class) (name_items m.name m.descriptor) (class_goes m.class)
    (name_goes m.name m.descriptor)) (reference_named x m is)

constant_goes : (c : Pushed ℤ ℤ) → GoAfter (constant_items c)
constant_goes pushed.Null = none_go
constant_goes (pushed.SmallInt n) = none_go
constant_goes (pushed.SmallLong n) = none_go
constant_goes (pushed.Byte z) = none_go
constant_goes (pushed.Short z) = none_go
constant_goes (pushed.Int width z) = int_goes z
constant_goes (pushed.Long z) = long_goes z

array_goes : (op : ArrayOperation (List ℕ)) → GoAfter (array_items op)
array_goes (array.New type) = none_go
array_goes (array.NewOf name) = class_goes name
array_goes array.Length = none_go
array_goes (array.Load kind) = none_go
array_goes (array.Store kind) = none_go

call_goes : (how : Invocation) (m : Member) → GoAfter (call_items how m)
call_goes invocation.Virtual m = member_goes (method_item m) m refl
call_goes invocation.Special m = member_goes (method_item m) m refl
call_goes invocation.Static m = member_goes (method_item m) m refl
call_goes (invocation.Interface count) m = member_goes (interface_item m) m refl

instruction_goes : (i : Listed) → GoAfter (instruction_items i)
instruction_goes instruction.Nop = none_go
instruction_goes (instruction.Constant c) = constant_goes c
instruction_goes (instruction.Local a) = none_go
instruction_goes (instruction.Stack op) = none_go
instruction_goes (instruction.Number op) = none_go
instruction_goes (instruction.Branch test target) = none_go
instruction_goes (instruction.TableSwitch s) = none_go
instruction_goes (instruction.LookupSwitch s) = none_go
instruction_goes (instruction.Return kind) = none_go
instruction_goes (instruction.Static access m) = member_goes (field_item m) m refl
instruction_goes (instruction.Field access m) = member_goes (field_item m) m refl
instruction_goes (instruction.Array op) = array_goes op
instruction_goes (instruction.Class op name) = class_goes name
instruction_goes (instruction.Invoke how m) = call_goes how m
instruction_goes instruction.Throw = none_go
instruction_goes (instruction.Monitor op) = none_go

row_goes : (class : Option (List ℕ)) → GoAfter (catch_items class)
row_goes None = none_go
row_goes (Some name) = class_goes name

code_goes : (code : Option CodeListing) → GoAfter (code_items code)
code_goes None = none_go
code_goes (Some c) =
    both_go (text_item (codes "Code") ∷ []) (flat_map placed_items c.instructions ++ flat_map row_items c.rows)
    (text_goes (codes "Code"))
    (both_go (flat_map placed_items c.instructions) (flat_map row_items c.rows)
    (all_go placed_items c.instructions (λ p. instruction_goes p.instruction))
    (all_go row_items c.rows (λ r. row_goes r.class)))

method_goes : (m : Method) → GoAfter (method_items m)
method_goes m =
    both_go (text_item m.name ∷ []) (text_item m.descriptor ∷ code_items m.code) (text_goes m.name)
    (both_go (text_item m.descriptor ∷ []) (code_items m.code) (text_goes m.descriptor) (code_goes m.code))

value_goes : (value : Option Constant) → GoAfter (value_items value)
value_goes None = none_go
value_goes (Some (constant.Int z)) = both_go (text_item (codes "ConstantValue") ∷ []) (int_item z ∷ [])
    (text_goes (codes "ConstantValue")) (int_goes z)
value_goes (Some (constant.Long z)) = both_go (text_item (codes "ConstantValue") ∷ []) (long_item z ∷ [])
    (text_goes (codes "ConstantValue")) (long_goes z)

field_goes : (f : Field) → GoAfter (field_items f)
field_goes f =
    both_go (text_item f.name ∷ []) (text_item f.descriptor ∷ value_items f.constant) (text_goes f.name)
    (both_go (text_item f.descriptor ∷ []) (value_items f.constant) (text_goes f.descriptor)
    (value_goes f.constant))

pub listing_goes : (l : ClassListing) → GoAfter (listing_items l)
unfolding listing_items
listing_goes l =
    let members = flat_map field_items l.fields ++ flat_map method_items l.methods in
    let members_go = both_go (flat_map field_items l.fields) (flat_map method_items l.methods)
    (all_go field_items l.fields field_goes) (all_go method_items l.methods method_goes) in
    let classes_go = both_go (flat_map class_items l.interfaces) members (all_go class_items l.interfaces class_goes)
    members_go in
    both_go (class_items l.name) (class_items l.superclass ++ (flat_map class_items l.interfaces ++ members))
    (class_goes l.name)
    (both_go (class_items l.superclass) (flat_map class_items l.interfaces ++ members) (class_goes l.superclass)
    classes_go)

pub ints_go : (zs : List ℤ) → GoAfter (map int_item zs)
ints_go [] = none_go
ints_go (z ∷ zs) = both_go (int_item z ∷ []) (map int_item zs) (int_goes z) (ints_go zs)

-- the pool of ints and then a listing, where it has room
pub listing_pool : (zs : List ℤ) (l : ClassListing)
    → items_count (with_items [] (map int_item zs ++ listing_items l)) < 2 ^ 16
    → IsPool (with_items [] (map int_item zs ++ listing_items l))
listing_pool zs l fits = record {
  closed = both_go (map int_item zs) (listing_items l) (ints_go zs) (listing_goes l) []
      tt;
  fits = fits;
}

-- ---- a pool's count hangs on its members alone

different_push : (items : List Item) (x : Item) → AreDifferent items → is_item_of items x ≡ false
    → AreDifferent (items ++ x ∷ [])
different_push [] x different new = (refl, tt)
different_push (y ∷ items) x different new =
    let parts = or_parts (is_same_item x y) (is_item_of items x) new in (
      false_from_ne_true (is_item_of (items ++ x ∷ []) y) (λ h. elim (among_cases items (x ∷ []) y h) [
        | inl a ↦ true≢false (sym a ∙ different.0)
        | inr b ↦ elim (or_cases (is_same_item y x) false b) [
          | inl s ↦ true≢false (sym s ∙ same_turned x y parts.0)
          | inr n ↦ true≢false (sym n)
        ]
      ]),
      different_push items x different.1 parts.1,
    )

with_item_different : (items : List Item) (x : Item) → AreDifferent items → AreDifferent (with_item items x)
with_item_different items x different = elim (cases_Bool (is_item_of items x)) [
  | inl t ↦ subst AreDifferent (sym (item_known items x t)) different
  | inr f ↦ subst AreDifferent (sym (item_new items x f)) (different_push items x different f)
]

pub with_items_different : (items xs : List Item) → AreDifferent items → AreDifferent (with_items items xs)
with_items_different items [] different = different
with_items_different items (x ∷ xs) different = with_items_different (with_item items x) xs
    (with_item_different items x different)

-- items without the first that is the same
without : Item → List Item → List Item
without x [] = []
without x (y ∷ ys) = if is_same_item x y then ys else y ∷ without x ys

without_here : (x y : Item) (ys : List Item) → is_same_item x y ≡ true → without x (y ∷ ys) ≡ ys
unfolding without
without_here x y ys t = rw t refl

without_there : (x y : Item) (ys : List Item) → is_same_item x y ≡ false → without x (y ∷ ys) ≡ y ∷ without x ys
unfolding without
without_there x y ys f = rw f refl

sum_without : (x : Item) (ys : List Item) → is_item_of ys x ≡ true → sum_by numbers_taken ys
    ≡ numbers_taken x + sum_by numbers_taken (without x ys)
sum_without x [] h = absurd (true≢false (sym h))
sum_without x (y ∷ ys) h = elim (cases_Bool (is_same_item x y)) [
  | inl t ↦
      let same : numbers_taken y ≡ numbers_taken x = ap (λ (z : Item). numbers_taken z) (sym (same_is x y t)) in
      omega (arith, same, sum_by-cons numbers_taken y ys, ap (sum_by numbers_taken) (without_here x y ys t))
  | inr f ↦
      let rest = sum_without x ys (rw f at h) in
      omega (
        arith,
        sum_by-cons numbers_taken y ys,
        sum_by-cons numbers_taken y (without x ys),
        rest,
        ap (sum_by numbers_taken) (without_there x y ys f),
      )
]

still_without : (x : Item) (ys : List Item) (z : Item) → is_item_of ys z ≡ true → is_same_item z x ≡ false
    → is_item_of (without x ys) z ≡ true
still_without x [] z h other = absurd (true≢false (sym h))
still_without x (y ∷ ys) z h other = elim (cases_Bool (is_same_item x y)) [
  | inl t ↦ ap (λ zs. is_item_of zs z) (without_here x y ys t)
      ∙ elim (or_cases (is_same_item z y) (is_item_of ys z) h) [
        | inl s ↦ absurd (true≢false (sym s ∙ ap (is_same_item z) (sym (same_is x y t)) ∙ other))
        | inr r ↦ r
      ]
  | inr f ↦ ap (λ zs. is_item_of zs z) (without_there x y ys f)
      ∙ elim (or_cases (is_same_item z y) (is_item_of ys z) h) [
        | inl s ↦ or_left (is_same_item z y) (is_item_of (without x ys) z) s
        | inr r ↦ or_right (is_same_item z y) (is_item_of (without x ys) z) (still_without x ys z r other)
      ]
]

-- different items that are all among others take no more numbers
sum_is_less : (xs ys : List Item) → AreDifferent xs → ((x : Item) → is_item_of xs x ≡ true → is_item_of ys x ≡ true)
    → sum_by numbers_taken xs ≤ sum_by numbers_taken ys
sum_is_less [] ys different each = omega arith
sum_is_less (x ∷ xs) ys different each =
    let other : (z : Item) → is_item_of xs z ≡ true → is_same_item z x ≡ false =
    λ z h. false_from_ne_true (is_same_item z x) (λ s. true≢false (sym h ∙ ap (is_item_of xs) (same_is z x s)
    ∙ different.0)) in
    let rest = sum_is_less xs (without x ys) different.1
    (λ z h. still_without x ys z (each z (or_right (is_same_item z x) (is_item_of xs z) h)) (other z h)) in
    omega (arith, rest, sum_without x ys (each x (among_first x xs)), sum_by-cons numbers_taken x xs)

none_before : (xs : List Item) (x : Item) → is_item_of (with_items [] xs) x ≡ true → is_item_of xs x ≡ true
none_before xs x h = elim (with_items_only [] xs x h) [ inl n ↦ absurd (true≢false (sym n)) | inr r ↦ r ]

pub count_is_less : (xs ys : List Item) → are_items_of ys xs ≡ true
    → items_count (with_items [] xs) ≤ items_count (with_items [] ys)
count_is_less xs ys all =
    omega (
      arith,
      sum_is_less (with_items [] xs) (with_items [] ys) (with_items_different [] xs tt)
          (λ x h. with_items_have [] ys x (one_of ys xs x all (none_before xs x h))),
    )

pub same_count : (xs ys : List Item) → are_items_of ys xs ≡ true → are_items_of xs ys ≡ true
    → items_count (with_items [] xs) ≡ items_count (with_items [] ys)
same_count xs ys left right = omega (arith, count_is_less xs ys left, count_is_less ys xs right)

-- items put first that the others have too don't count
pub count_first : (first xs : List Item) → are_items_of xs first ≡ true → items_count (with_items [] (first ++ xs))
    ≡ items_count (with_items [] xs)
count_first first xs all =
    same_count (first ++ xs) xs
    (all_from xs (first ++ xs) (λ x h. elim (among_cases first xs x h) [ inl l ↦ one_of xs first x all l | inr r ↦ r ]))
    (all_from (first ++ xs) xs (λ x h. among_right first xs x h))

-- the ints of `ldc`, which a listing has too, don't make its pool larger
pub listing_count : (zs : List ℤ) (l : ClassListing) → are_items_of (listing_items l) (map int_item zs) ≡ true
    → items_count (with_items [] (map int_item zs ++ listing_items l)) ≡ pool_size l
unfolding pool_size
listing_count zs l all = count_first (map int_item zs) (listing_items l) all

-- the pool of a listing has what the listing names
pub listing_there : (zs : List ℤ) (l : ClassListing) → are_items_of (with_items [] (map int_item zs ++ listing_items l))
    (listing_items l) ≡ true
listing_there zs l =
    all_from (with_items [] (map int_item zs ++ listing_items l)) (listing_items l) (λ x h. with_items_have [] (map
    int_item zs ++ listing_items l) x (among_right (map int_item zs) (listing_items l) x h))

-- ---- small numbers

number_below : (n : ℕ) (xs : List Item) (x : Item) → is_item_of xs x ≡ true
    → number_from n xs x + numbers_taken x ≤ n + sum_by numbers_taken xs
number_below n [] x h = absurd (true≢false (sym h))
number_below n (y ∷ xs) x h = elim (cases_Bool (is_same_item x y)) [
  | inl t ↦
      let same : numbers_taken y ≡ numbers_taken x = ap (λ (z : Item). numbers_taken z) (sym (same_is x y t)) in
      omega (arith, number_here n y x xs t, same, sum_by-cons numbers_taken y xs)
  | inr f ↦ omega (
    arith,
    number_after n y x xs f,
    number_below (n + numbers_taken y) xs x (rw f at h),
    sum_by-cons numbers_taken y xs,
  )
]

takes_one : (x : Item) → 1 ≤ numbers_taken x
takes_one (text_item text) = omega arith
takes_one (int_item z) = omega arith
takes_one (long_item z) = omega arith
takes_one (class_item name) = omega arith
takes_one (name_item name descriptor) = omega arith
takes_one (field_item m) = omega arith
takes_one (method_item m) = omega arith
takes_one (interface_item m) = omega arith

pub number_under_count : (items : List Item) (x : Item) → is_item_of items x ≡ true
    → number_of items x < items_count items
number_under_count items x h = omega (arith, number_below 1 items x h, takes_one x)

-- a number has two bytes
pub number_fits : (items : List Item) (x : Item) → IsPool items → is_item_of items x ≡ true → number_of items x < 2 ^ 16
number_fits items x pool h = omega (arith, number_under_count items x h, pool.fits)

count_one : (items : List Item) (x : Item) → items_count (with_item items x) ≤ items_count items + numbers_taken x
count_one items x = elim (cases_Bool (is_item_of items x)) [
  | inl t ↦ omega (arith, ap items_count (item_known items x t))
  | inr f ↦ omega (
    arith,
    ap items_count (item_new items x f),
    sum_by-append numbers_taken items (x ∷ []),
    sum_by-cons numbers_taken x [],
  )
]

count_ints : (items : List Item) (zs : List ℤ) → items_count (with_items items (map int_item zs)) ≤ items_count
    items + length zs
count_ints items [] = omega arith
count_ints items (z ∷ zs) = omega (arith, count_one items (int_item z), count_ints (with_item items (int_item z)) zs)

-- the number of one of the ints put first is at most how many they are
pub int_number : (zs : List ℤ) (xs : List Item) (z : ℤ) → is_item_of (map int_item zs) (int_item z) ≡ true
    → number_of (with_items [] (map int_item zs ++ xs)) (int_item z) ≤ length zs
int_number zs xs z h =
    let ints = with_items [] (map int_item zs) in
    let there : is_item_of ints (int_item z) ≡ true = with_items_have [] (map int_item zs) (int_item z) h in
    let same : number_of (with_items [] (map int_item zs ++ xs)) (int_item z) ≡ number_of ints (int_item z) =
    ap (λ items. number_of items (int_item z)) (with_items-append [] (map int_item zs) xs) ∙ still_numbers
    ints xs (int_item z) there in
    omega (arith, same, number_under_count ints (int_item z) there, count_ints [] zs)

-- ---- the numbers of different ints

not_before : (xs ys : List Item) (y : Item) → AreDifferent (xs ++ y ∷ ys) → is_item_of xs y ≡ false
not_before [] ys y different = refl
not_before (x ∷ xs) ys y different =
    let apart : is_same_item x y ≡ false = (or_parts (is_same_item x y) (is_item_of ys x) (or_after xs different.0)).0
    in
    or_from (is_same_item y x) (is_item_of xs y) (same_turned x y apart) (not_before xs ys y different.1)
  where
    or_after : (zs : List Item) → is_item_of (zs ++ y ∷ ys) x ≡ false → is_item_of (y ∷ ys) x ≡ false
    or_after zs h = false_from_ne_true (is_item_of (y ∷ ys) x) (λ t. true≢false (sym (among_right zs (y ∷ ys) x t) ∙ h))

all_new : (items xs : List Item) → AreDifferent (items ++ xs) → with_items items xs ≡ items ++ xs
all_new items [] different = sym (append-nil items)
all_new items (x ∷ xs) different =
    let pushed : with_item items x ≡ items ++ x ∷ [] = item_new items x (not_before items xs x different) in
    ap (λ ys. with_items ys xs) pushed
    ∙ all_new (items ++ x ∷ []) xs (subst AreDifferent (sym (append_assoc items (x ∷ []) xs)) different)
    ∙ append_assoc items (x ∷ []) xs

number_past : (n : ℕ) (xs ys : List Item) (y : Item) → is_item_of xs y ≡ false → number_from n (xs ++ ys) y
    ≡ number_from (n + sum_by numbers_taken xs) ys y
number_past n [] ys y h = ap (λ k. number_from k ys y) (omega arith)
number_past n (x ∷ xs) ys y h =
    let parts = or_parts (is_same_item y x) (is_item_of xs y) h in
    let sums : n + numbers_taken x + sum_by numbers_taken xs ≡ n + sum_by numbers_taken (x ∷ xs) = omega (
      arith,
      sum_by-cons numbers_taken x xs,
    ) in
    number_after n x y (xs ++ ys) parts.0 ∙ number_past (n + numbers_taken x) xs ys y parts.1
    ∙ ap (λ k. number_from k ys y) sums

ints_take : (zs : List ℤ) → sum_by numbers_taken (map int_item zs) ≡ length zs
ints_take [] = refl
ints_take (z ∷ zs) = omega (arith, sum_by-cons numbers_taken (int_item z) (map int_item zs), ints_take zs)

-- in a pool that begins with different ints each has its place among them as its number
pub int_place : (before : List ℤ) (z : ℤ) (after : List Item) → AreDifferent (map int_item before ++ int_item z ∷ [])
    → number_of (with_items [] (map int_item before ++ int_item z ∷ after)) (int_item z) ≡ 1 + length before
int_place before z after different =
    let first = map int_item before in
    let begun = first ++ int_item z ∷ [] in
    let there : is_item_of begun (int_item z) ≡ true = among_right first (int_item z ∷ []) (int_item z)
    (among_first (int_item z) []) in
    let pool : with_items [] (first ++ int_item z ∷ after) ≡ with_items begun after =
    ap (with_items []) (sym (append_assoc first (int_item z ∷ []) after)) ∙ with_items-append [] begun after
    ∙ ap (λ items. with_items items after) (all_new [] begun different) in
    ap (λ items. number_of items (int_item z)) pool ∙ still_numbers begun after (int_item z) there
    ∙ number_past 1 first (int_item z ∷ []) (int_item z) (not_before first [] (int_item z) different)
    ∙ number_here (1 + sum_by numbers_taken first) (int_item z) (int_item z) [] (same_self (int_item z))
    ∙ ap (λ k. 1 + k) (ints_take before)
