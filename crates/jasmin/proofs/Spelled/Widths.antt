-- Lines whose widths are settled keep what their instructions have, and few numbers stay with `ldc`.
use Rattle.std.proofs.Common.{◌≡◌, ℕ, ℤ, ◌+◌, ◌≤◌, Bool, true, false, not, ◌||◌, List, [], ◌∷◌, ◌++◌, length, map}
use Rattle.std.proofs.Common.{filter, take, refl, sym, ap, subst, ◌∙◌, arith, inl, inr, Some, None, Option}
use Rattle.std.specs.List.{AllByRecursion, list_all, flat_map}
use Rattle.std.specs.Option.{option_map}
use Rattle.std.specs.Ordering.{int_eq}
use Rattle.std.proofs.lemmas.Bool.Decides.{Decides-int_eq}
use Rattle.std.proofs.lemmas.List.{length-take}
use Rattle.std.proofs.lemmas.List.Folds.{list_all-append}
use Rattle.model.specs.declared.instructions.Constant.{Constant}
use Rattle.model.specs.declared.instructions.Constant.TheVariants as constant
use Rattle.model.specs.declared.instructions.Instruction.TheVariants.{Nop, Constant as ConstantOf, Local, Stack, Number}
use Rattle.model.specs.declared.instructions.Instruction.TheVariants.{Branch, TableSwitch, LookupSwitch, Return, Static}
use Rattle.model.specs.declared.instructions.Instruction.TheVariants.{Field, Array, Class, Invoke, Throw, Monitor}
use Rattle.model.specs.declared.instructions.Width.TheVariants.{Narrow, Wide}
use Rattle.model.specs.declared.listings.Placed.{Placed}
use Rattle.model.specs.declared.trees.CatchRow.{CatchRow}
use Rattle.model.specs.declared.trees.MethodTree.{MethodTree}
use Rattle.model.specs.declared.trees.TextLine.{TextLine}
use Rattle.model.specs.declared.trees.TextLine.TheVariants as line
use Rattle.model.specs.Sizes.{size_at}
use Rattle.model.specs.Texts.Bodies.{Body}
use Rattle.model.specs.Texts.Instructions.{Written}
use Rattle.model.specs.Texts.Labels.{pc_of, with_targets}
use Rattle.model.specs.Texts.ListingOfTree.{placed_from, code_listing, method_listing}
use Rattle.model.specs.Texts.Spelled.{narrow_number, narrow_constant, numbers_of_code, ldc_numbers}
use Rattle.model.specs.Texts.Uses.{labels_from, count_from, labels_in, count_in, targets_of, line_agrees, labels_agree}
use Rattle.model.specs.Texts.Widths.{is_among, different, widened_constant, widened, widened_line, narrow_numbers}
use Rattle.model.specs.Texts.Widths.{used_in_methods}
use Rattle.jasmin_words.proofs.Places.{bool_tells}
use Rattle.jasmin.proofs.Spelled.Bodies.{LineFits}
use Rattle.jasmin.proofs.Spelled.Instructions.{Fits}
use Rattle.jasmin.proofs.Spelled.Partial.{both_true, and_true}

-- ---- what is kept

module _ (narrow : List ℤ) where
  constant_kept : (c : Constant ℤ ℤ) → Fits (ConstantOf c) → Fits (ConstantOf (widened_constant narrow c))
  constant_kept constant.Null h = h
  constant_kept (constant.SmallInt n) h = h
  constant_kept (constant.SmallLong n) h = h
  constant_kept (constant.Byte n) h = h
  constant_kept (constant.Short n) h = h
  constant_kept (constant.Int Narrow n) h = h
  constant_kept (constant.Int Wide n) h = h
  constant_kept (constant.Long n) h = h

  instruction_kept : (i : Written) → Fits i → Fits (widened narrow i)
  instruction_kept Nop h = h
  instruction_kept (ConstantOf c) h = constant_kept c h
  instruction_kept (Local l) h = h
  instruction_kept (Stack s) h = h
  instruction_kept (Number n) h = h
  instruction_kept (Branch t target) h = h
  instruction_kept (TableSwitch t) h = h
  instruction_kept (LookupSwitch l) h = h
  instruction_kept (Return kind) h = h
  instruction_kept (Static a m) h = h
  instruction_kept (Field a m) h = h
  instruction_kept (Array a) h = h
  instruction_kept (Class o c) h = h
  instruction_kept (Invoke i m) h = h
  instruction_kept Throw h = h
  instruction_kept (Monitor m) h = h

  pub lines_kept : (lines : List TextLine) → AllByRecursion LineFits lines
      → AllByRecursion LineFits (map (widened_line narrow) lines)
  lines_kept [] all = tt
  lines_kept (line.Label l ∷ lines) all = (tt, lines_kept lines all.1)
  lines_kept (line.Instruction i ∷ lines) all = (instruction_kept i all.0, lines_kept lines all.1)

  targets_kept : (i : Written) → targets_of (widened narrow i) ≡ targets_of i
  targets_kept Nop = refl
  targets_kept (ConstantOf c) = refl
  targets_kept (Local l) = refl
  targets_kept (Stack s) = refl
  targets_kept (Number n) = refl
  targets_kept (Branch t target) = refl
  targets_kept (TableSwitch t) = refl
  targets_kept (LookupSwitch l) = refl
  targets_kept (Return kind) = refl
  targets_kept (Static a m) = refl
  targets_kept (Field a m) = refl
  targets_kept (Array a) = refl
  targets_kept (Class o c) = refl
  targets_kept (Invoke i m) = refl
  targets_kept Throw = refl
  targets_kept (Monitor m) = refl

  labels_kept : (n : ℕ) (lines : List TextLine) → labels_from n (map (widened_line narrow) lines) ≡ labels_from n lines
  labels_kept n [] = refl
  labels_kept n (line.Label l ∷ lines) = ap (λ rows. (l, n) ∷ rows) (labels_kept n lines)
  labels_kept n (line.Instruction i ∷ lines) = labels_kept (n + 1) lines

  count_kept : (n : ℕ) (lines : List TextLine) → count_from n (map (widened_line narrow) lines) ≡ count_from n lines
  count_kept n [] = refl
  count_kept n (line.Label l ∷ lines) = count_kept n lines
  count_kept n (line.Instruction i ∷ lines) = count_kept (n + 1) lines

  all_agree_kept : (labels : List (List ℕ × ℕ)) (count : ℕ) (lines : List TextLine)
      → list_all (line_agrees labels count) (map (widened_line narrow) lines)
      ≡ list_all (line_agrees labels count) lines
  all_agree_kept labels count [] = refl
  all_agree_kept labels count (line.Label l ∷ lines) = all_agree_kept labels count lines
  all_agree_kept labels count (line.Instruction i ∷ lines) = rw (targets_kept i, all_agree_kept labels count lines) refl

  pub agree_kept : (rows : List CatchRow) (lines : List TextLine) → labels_agree rows (map (widened_line narrow) lines)
      ≡ labels_agree rows lines
  unfolding labels_agree
  agree_kept rows lines = rw (
    labels_kept 0 lines,
    count_kept 0 lines,
    all_agree_kept (labels_in lines) (count_in lines) lines,
  ) refl

  -- ---- the numbers that stay with `ldc`

  constant_among : (c : Constant ℤ ℤ) → list_all (is_among narrow) (narrow_constant (widened_constant narrow c)) ≡ true
  constant_among constant.Null = refl
  constant_among (constant.SmallInt n) = refl
  constant_among (constant.SmallLong n) = refl
  constant_among (constant.Byte n) = refl
  constant_among (constant.Short n) = refl
  constant_among (constant.Int Narrow n) = elim (bool_tells (is_among narrow n)) [
    | inl t ↦ rw t (and_true (is_among narrow n) true t refl)
    | inr f ↦ rw f refl
  ]
  constant_among (constant.Int Wide n) = refl
  constant_among (constant.Long n) = refl

  instruction_among : (f : List ℕ → ℕ) (i : Written)
      → list_all (is_among narrow) (narrow_number (with_targets f (widened narrow i))) ≡ true
  instruction_among f Nop = refl
  instruction_among f (ConstantOf c) = constant_among c
  instruction_among f (Local l) = refl
  instruction_among f (Stack s) = refl
  instruction_among f (Number n) = refl
  instruction_among f (Branch t target) = refl
  instruction_among f (TableSwitch t) = refl
  instruction_among f (LookupSwitch l) = refl
  instruction_among f (Return kind) = refl
  instruction_among f (Static a m) = refl
  instruction_among f (Field a m) = refl
  instruction_among f (Array a) = refl
  instruction_among f (Class o c) = refl
  instruction_among f (Invoke i m) = refl
  instruction_among f Throw = refl
  instruction_among f (Monitor m) = refl

  both_among : (xs ys : List ℤ) → list_all (is_among narrow) xs ≡ true → list_all (is_among narrow) ys ≡ true
      → list_all (is_among narrow) (xs ++ ys) ≡ true
  both_among xs ys h k = list_all-append (is_among narrow) xs ys ∙ and_true (list_all (is_among narrow) xs)
      (list_all (is_among narrow) ys) h k

  lines_among : (f : List ℕ → ℕ) (pc : ℕ) (lines : List TextLine)
      → list_all (is_among narrow) (flat_map (λ (p : Placed). narrow_number p.instruction)
      (placed_from f pc (map (widened_line narrow) lines))) ≡ true
  lines_among f pc [] = refl
  lines_among f pc (line.Label l ∷ lines) = lines_among f pc lines
  lines_among f pc (line.Instruction i ∷ lines) =
      both_among (narrow_number (with_targets f (widened narrow i)))
      (flat_map (λ (p : Placed). narrow_number p.instruction) (placed_from f (pc + size_at pc (widened narrow i))
      (map (widened_line narrow) lines)))
      (instruction_among f i) (lines_among f (pc + size_at pc (widened narrow i)) lines)

  body_among : (body : Option Body)
      → list_all (is_among narrow) (numbers_of_code (option_map (code_listing narrow) body)) ≡ true
  body_among None = refl
  body_among (Some body) = lines_among (pc_of 0 (map (widened_line narrow) body.lines)) 0 body.lines

  methods_among : (ms : List MethodTree) → list_all (is_among narrow) (ldc_numbers (map (method_listing narrow) ms))
      ≡ true
  methods_among [] = refl
  methods_among (m ∷ ms) =
      both_among (numbers_of_code (option_map (code_listing narrow) m.body))
      (ldc_numbers (map (method_listing narrow) ms)) (body_among m.body) (methods_among ms)

-- ---- different numbers among others are no more than those

but : ℤ → ℤ → Bool
but k y = not (int_eq k y)

kept : (p : ℤ → Bool) (z : ℤ) (zs : List ℤ) → p z ≡ true → filter p (z ∷ zs) ≡ z ∷ filter p zs
kept p z zs h = rw h refl

left_out : (p : ℤ → Bool) (z : ℤ) (zs : List ℤ) → p z ≡ false → filter p (z ∷ zs) ≡ filter p zs
left_out p z zs h = rw h refl

both_false : (a b : Bool) → (a || b) ≡ false → (a ≡ false) × (b ≡ false)
both_false true b h = absurd cc
both_false false b h = (refl, h)

or_false : (a b : Bool) → a ≡ false → b ≡ false → (a || b) ≡ false
or_false a b h k = rw (h, k) refl

-- no number stands twice
Apart : List ℤ → Type 0
Apart [] = Unit {0}
Apart (z ∷ zs) = (is_among zs z ≡ false) × Apart zs

still_not : (p : ℤ → Bool) (zs : List ℤ) (y : ℤ) → is_among zs y ≡ false → is_among (filter p zs) y ≡ false
still_not p [] y h = refl
still_not p (z ∷ zs) y h =
    let parts = both_false (int_eq z y) (is_among zs y) h in
    elim (bool_tells (p z)) [
      | inl t ↦ rw t (or_false (int_eq z y) (is_among (filter p zs) y) parts.0 (still_not p zs y parts.1))
      | inr f ↦ rw f (still_not p zs y parts.1)
    ]

still_apart : (p : ℤ → Bool) (zs : List ℤ) → Apart zs → Apart (filter p zs)
unfolding Apart
still_apart p [] h = tt
still_apart p (z ∷ zs) h =
    elim (bool_tells (p z)) [
      | inl t ↦ rw t (still_not p zs z h.0, still_apart p zs h.1)
      | inr f ↦ rw f (still_apart p zs h.1)
    ]

unequal : (z y : ℤ) → int_eq z y ≡ false → int_eq y z ≡ false
unequal z y h = elim (bool_tells (int_eq y z)) [
  | inl t ↦ (let k = (Decides-int_eq z y).1 (sym ((Decides-int_eq y z).0 t)) in cc)
  | inr f ↦ f
]

gone : (z : ℤ) (zs : List ℤ) → is_among (filter (λ y. not (int_eq z y)) zs) z ≡ false
gone z [] = refl
gone z (y ∷ zs) =
    elim (bool_tells (int_eq z y)) [
      | inl t ↦ rw t (gone z zs)
      | inr f ↦ rw f (or_false (int_eq y z) (is_among (filter (λ y. not (int_eq z y)) zs) z) (unequal z y f)
          (gone z zs))
    ]

different_apart : (zs : List ℤ) → Apart (different zs)
unfolding Apart
different_apart [] = tt
different_apart (z ∷ zs) = (
  gone z (different zs),
  still_apart (λ y. not (int_eq z y)) (different zs) (different_apart zs),
)

all_kept : (p q : ℤ → Bool) (zs : List ℤ) → list_all p zs ≡ true → list_all p (filter q zs) ≡ true
all_kept p q [] h = refl
all_kept p q (z ∷ zs) h =
    let parts = both_true (p z) (list_all p zs) h in
    elim (bool_tells (q z)) [
      | inl t ↦ rw t (and_true (p z) (list_all p (filter q zs)) parts.0 (all_kept p q zs parts.1))
      | inr f ↦ rw f (all_kept p q zs parts.1)
    ]

all_different : (p : ℤ → Bool) (zs : List ℤ) → list_all p zs ≡ true → list_all p (different zs) ≡ true
all_different p [] h = refl
all_different p (z ∷ zs) h =
    let parts = both_true (p z) (list_all p zs) h in
    and_true (p z) (list_all p (filter (λ y. not (int_eq z y)) (different zs))) parts.0
    (all_kept p (λ y. not (int_eq z y)) (different zs) (all_different p zs parts.1))

-- without one number
nothing_lost : (k : ℤ) (zs : List ℤ) → is_among zs k ≡ false → length zs ≤ length (filter (but k) zs)
unfolding but
nothing_lost k [] h = omega arith
nothing_lost k (z ∷ zs) h =
    let parts = both_false (int_eq z k) (is_among zs k) h in
    rw (unequal z k parts.0) (omega (arith, nothing_lost k zs parts.1))

one_lost : (k : ℤ) (zs : List ℤ) → Apart zs → length zs ≤ length (filter (but k) zs) + 1
unfolding but Apart
one_lost k [] h = omega arith
one_lost k (z ∷ zs) h =
    elim (bool_tells (int_eq k z)) [
      | inl t ↦
          let e = (Decides-int_eq k z).0 t in
          let rest = nothing_lost k zs (subst (λ x. is_among zs x ≡ false) (sym e) h.0) in
          rw t (omega (arith, rest))
      | inr f ↦ rw f (omega (arith, one_lost k zs h.1))
    ]

others_among : (k : ℤ) (ks zs : List ℤ) → list_all (is_among (k ∷ ks)) zs ≡ true
    → list_all (is_among ks) (filter (but k) zs) ≡ true
unfolding but
others_among k ks [] h = refl
others_among k ks (z ∷ zs) h =
    let parts = both_true (is_among (k ∷ ks) z) (list_all (is_among (k ∷ ks)) zs) h in
    elim (bool_tells (int_eq k z)) [
      | inl t ↦ rw t (others_among k ks zs parts.1)
      | inr f ↦ rw f (and_true (is_among ks z) (list_all (is_among ks) (filter (but k) zs)) (rw f at parts.0)
          (others_among k ks zs parts.1))
    ]

no_more : (ks zs : List ℤ) → Apart zs → list_all (is_among ks) zs ≡ true → length zs ≤ length ks
no_more [] [] apart h = omega arith
no_more [] (z ∷ zs) apart h = absurd cc
no_more (k ∷ ks) zs apart h = omega (
  arith,
  one_lost k zs apart,
  no_more ks (filter (but k) zs) (still_apart (but k) zs apart) (others_among k ks zs h),
)

few : (xs : List ℤ) → length (take 255 xs) ≤ 255
few xs = omega (arith, length-take 255 xs)

pub few_numbers : (ms : List MethodTree)
    → length (different (ldc_numbers (map (method_listing (narrow_numbers ms)) ms))) ≤ 255
few_numbers ms =
    let numbers = ldc_numbers (map (method_listing (narrow_numbers ms)) ms) in
    let most : length (different numbers) ≤ length (narrow_numbers ms) =
    no_more (narrow_numbers ms) (different numbers) (different_apart numbers)
    (all_different (is_among (narrow_numbers ms)) numbers (methods_among (narrow_numbers ms) ms)) in
    let least : length (narrow_numbers ms) ≤ 255 = few (different (used_in_methods ms)) in
    omega arith
