-- The numbers that `ldc` uses in a class file stand under numbers of one byte, so they are 255 different ones at most.
use Rattle.std.proofs.Common.{◌≡◌, ℕ, ℤ, zero, suc, ◌+◌, ◌≤◌, ◌<◌, ◌^◌, Bool, true, false, not, ◌&&◌, ◌||◌, List, []}
use Rattle.std.proofs.Common.{◌∷◌, ◌++◌, length, map, filter, take, flat_map, slice_get, Option, Some, None, refl, sym}
use Rattle.std.proofs.Common.{ap, ◌∙◌, inl, inr, arith}
use Rattle.std.specs.Prelude.{nat_le}
use Rattle.std.specs.List.{AllByRecursion, list_all}
use Rattle.std.specs.Option.{option_map}
use Rattle.std.specs.Ordering.{int_eq}
use Rattle.std.proofs.lemmas.Bool.{and_parts, and_from, or_cases, or_left, or_right, cases_Bool, le-leb, true≢false}
use Rattle.std.proofs.lemmas.Bool.{false_from_ne_true}
use Rattle.std.proofs.lemmas.Bool.Decides.{Decides-int_eq}
use Rattle.std.proofs.lemmas.List.{length-append, length-take}
use Rattle.model.specs.declared.bytecode.Located.{Located}
use Rattle.model.specs.declared.class_files.Entry.{Entry}
use Rattle.model.specs.declared.class_files.Entry.TheVariants.{Utf8, Integer, Long, Class, Fieldref, Methodref}
use Rattle.model.specs.declared.class_files.Entry.TheVariants.{InterfaceMethodref, NameAndType}
use Rattle.model.specs.declared.instructions.Constant.{Constant}
use Rattle.model.specs.declared.instructions.Constant.TheVariants as constant
use Rattle.model.specs.declared.instructions.Instruction.TheVariants as instruction
use Rattle.model.specs.declared.instructions.Width.TheVariants.{Narrow, Wide}
use Rattle.model.specs.Bytecode.Opcodes.{Instr}
use Rattle.model.specs.Bytecode.Ranges.{ConstantFits, Fits}
use Rattle.model.specs.ClassFiles.Codes.{CodePart, is_sound_constant, is_sound}
use Rattle.model.specs.ClassFiles.Listing.{int_of, listed_constant, listed, placed, listed_code, listed_method}
use Rattle.model.specs.ClassFiles.Methods.{MethodPart, wants_code}
use Rattle.model.specs.ClassFiles.Pools.{slots_of, held, entry_at}
use Rattle.model.specs.Texts.Spelled.{narrow_constant, narrow_number, numbers_of_code, ldc_numbers}
use Rattle.model.specs.Texts.Widths.{is_among, different}
use Rattle.classfile.specs.Sound.{CodesStand}
use Rattle.disasm.proofs.Back.Lists.{all_joined}
use Rattle.disasm.proofs.Back.Widths.{among_kept}
use Rattle.disasm.proofs.ClassFiles.Codes.{each_fits}
use Rattle.disasm.proofs.ClassFiles.Operands.{int_tag}

-- ---- different numbers that are all among others are no more than these

turned : (z y : ℤ) → int_eq z y ≡ false → int_eq y z ≡ false
turned z y apart = false_from_ne_true (int_eq y z)
    (λ e. true≢false (sym ((Decides-int_eq z y).1 (sym ((Decides-int_eq y z).0 e))) ∙ apart))

no_longer : (p : ℤ → Bool) (zs : List ℤ) → length (filter p zs) ≤ length zs
no_longer p [] = omega arith
no_longer p (z ∷ zs) = elim (cases_Bool (p z)) [
  | inl t ↦ rw t (omega (arith, no_longer p zs))
  | inr f ↦ rw f (omega (arith, no_longer p zs))
]

one_gone : (z : ℤ) (ks : List ℤ) → is_among ks z ≡ true → length (filter (λ y. not (int_eq z y)) ks) + 1 ≤ length ks
one_gone z [] h = absurd (true≢false (sym h))
one_gone z (k ∷ ks) h = elim (cases_Bool (int_eq z k)) [
  | inl same ↦ rw same (omega (arith, no_longer (λ y. not (int_eq z y)) ks))
  | inr apart ↦ rw apart (omega (arith, one_gone z ks (ap (λ b. b || is_among ks z) (sym (turned z k apart)) ∙ h)))
]

filtered_twice : (p q : ℤ → Bool) (zs : List ℤ) → length (filter p (filter q zs)) ≡ length (filter (λ y. q y && p y) zs)
filtered_twice p q [] = refl
filtered_twice p q (z ∷ zs) = elim (cases_Bool (q z)) [
  | inl t ↦ elim (cases_Bool (p z)) [
    | inl both ↦ rw (t, both) (ap suc (filtered_twice p q zs))
    | inr one ↦ rw (t, one) (filtered_twice p q zs)
  ]
  | inr f ↦ rw f (filtered_twice p q zs)
]

-- those that pass a test
few_pass : (p : ℤ → Bool) (zs ks : List ℤ) → ((y : ℤ) → is_among zs y ≡ true → p y ≡ true → is_among ks y ≡ true)
    → length (filter p (different zs)) ≤ length ks
few_pass p [] ks each = omega arith
few_pass p (z ∷ zs) ks each =
    let other = λ (y : ℤ). not (int_eq z y) in
    let both = λ (y : ℤ). other y && p y in
    let twice = filtered_twice p other (different zs) in
    elim (cases_Bool (p z)) [
      | inl t ↦
          let there : is_among ks z ≡ true = each z (or_left (int_eq z z) (is_among zs z) ((Decides-int_eq z z).1 refl))
          t in
          let rest = few_pass both zs (filter other ks) (λ y h good.
          let parts = and_parts (other y) (p y) good in
          let apart : int_eq z y ≡ false = unequal (int_eq z y) parts.0 in
          among_kept z y ks apart ∙ each y (or_right (int_eq z y) (is_among zs y) h) parts.1) in
          rw t (omega (arith, rest, twice, one_gone z ks there))
      | inr f ↦
          let rest = few_pass both zs ks (λ y h good. each y (or_right (int_eq z y) (is_among zs y) h)
          (and_parts (other y) (p y) good).1) in
          rw f (omega (arith, rest, twice))
    ]
  where
    unequal : (b : Bool) → not b ≡ true → b ≡ false
    unequal true e = sym e
    unequal false e = refl

all_pass : (zs : List ℤ) → filter (λ y. true) zs ≡ zs
all_pass [] = refl
all_pass (z ∷ zs) = ap (λ ys. z ∷ ys) (all_pass zs)

among_all : (ks zs : List ℤ) (y : ℤ) → list_all (is_among ks) zs ≡ true → is_among zs y ≡ true → is_among ks y ≡ true
among_all ks [] y all h = absurd (true≢false (sym h))
among_all ks (z ∷ zs) y all h =
    let parts = and_parts (is_among ks z) (list_all (is_among ks) zs) all in
    elim (or_cases (int_eq z y) (is_among zs y) h) [
      | inl same ↦ ap (is_among ks) (sym ((Decides-int_eq z y).0 same)) ∙ parts.0
      | inr there ↦ among_all ks zs y parts.1 there
    ]

few_different : (ks zs : List ℤ) → list_all (is_among ks) zs ≡ true → length (different zs) ≤ length ks
few_different ks zs all = omega (
  arith,
  few_pass (λ y. true) zs ks (λ y h good. among_all ks zs y all h),
  ap (λ (ys : List ℤ). length ys) (all_pass (different zs)),
)

-- ---- the ints under numbers of one byte

int_slot : Option Entry → List ℤ
int_slot (Some (Integer z)) = z ∷ []
int_slot (Some (Utf8 text)) = []
int_slot (Some (Long z)) = []
int_slot (Some (Class name)) = []
int_slot (Some (Fieldref class member)) = []
int_slot (Some (Methodref class member)) = []
int_slot (Some (InterfaceMethodref class member)) = []
int_slot (Some (NameAndType name type)) = []
int_slot None = []

slot_has_one : (o : Option Entry) → length (int_slot o) ≤ 1
unfolding int_slot
slot_has_one (Some (Integer z)) = omega arith
slot_has_one (Some (Utf8 text)) = omega arith
slot_has_one (Some (Long z)) = omega arith
slot_has_one (Some (Class name)) = omega arith
slot_has_one (Some (Fieldref class member)) = omega arith
slot_has_one (Some (Methodref class member)) = omega arith
slot_has_one (Some (InterfaceMethodref class member)) = omega arith
slot_has_one (Some (NameAndType name type)) = omega arith
slot_has_one None = omega arith

slots_have : (slots : List (Option Entry)) → length (flat_map int_slot slots) ≤ length slots
slots_have [] = omega arith
slots_have (s ∷ slots) = omega (
  arith,
  length-append (int_slot s) (flat_map int_slot slots),
  slot_has_one s,
  slots_have slots,
)

among_after : (xs ys : List ℤ) (z : ℤ) → is_among ys z ≡ true → is_among (xs ++ ys) z ≡ true
among_after [] ys z h = h
among_after (x ∷ xs) ys z h = or_right (int_eq x z) (is_among (xs ++ ys) z) (among_after xs ys z h)

in_slots : (slots : List (Option Entry)) (k i : ℕ) (z : ℤ) → i < k → slice_get slots i ≡ Some (Some (Integer z))
    → is_among (flat_map int_slot (take k slots)) z ≡ true
unfolding int_slot
in_slots [] k i z below h = absurd cc
in_slots (s ∷ slots) zero i z below h = absurd (omega (arith, below))
in_slots (s ∷ slots) (suc k) zero z below h =
    let is : s ≡ Some (Integer z) = cc in
    ap (λ (o : Option Entry). is_among (int_slot o ++ flat_map int_slot (take k slots)) z) is
    ∙ or_left (int_eq z z) (is_among (flat_map int_slot (take k slots)) z) ((Decides-int_eq z z).1 refl)
in_slots (s ∷ slots) (suc k) (suc i) z below h =
    among_after (int_slot s) (flat_map int_slot (take k slots)) z (in_slots slots k i z (omega (arith, below)) h)

small_ints : List Entry → List ℤ
small_ints pool = flat_map int_slot (take 255 (slots_of pool))

few_ints : (pool : List Entry) → length (small_ints pool) ≤ 255
unfolding small_ints
few_ints pool = omega (arith, slots_have (take 255 (slots_of pool)), length-take 255 (slots_of pool))

module _ (pool : List Entry) where
  abbrev IsSmall : ℤ → Bool
  IsSmall z = is_among (small_ints pool) z

  int_is_small : (n : ℕ) (z : ℤ) → n < 2 ^ 8 → entry_at pool n ≡ Some (Integer z) → IsSmall z ≡ true
  unfolding small_ints
  int_is_small zero z below h = absurd cc
  int_is_small (suc n) z below h = in_slots (slots_of pool) 255 n z (omega (arith, below))
      (slot_held (slice_get (slots_of pool) n) h)
    where
      slot_held : (o : Option (Option Entry)) → held o ≡ Some (Integer z) → o ≡ Some (Some (Integer z))
      slot_held None k = absurd cc
      slot_held (Some w) k = ap Some k

  constant_is_small : (c : Constant ℕ ℕ) → ConstantFits c → is_sound_constant pool c ≡ true
      → list_all IsSmall (narrow_constant (listed_constant pool c)) ≡ true
  constant_is_small constant.Null fits kind = refl
  constant_is_small (constant.SmallInt n) fits kind = refl
  constant_is_small (constant.SmallLong n) fits kind = refl
  constant_is_small (constant.Byte z) fits kind = refl
  constant_is_small (constant.Short z) fits kind = refl
  constant_is_small (constant.Int Narrow n) fits kind =
      let t = int_tag (entry_at pool n) kind in
      and_from (IsSmall (int_of (entry_at pool n))) true (ap (λ (o : Option Entry). IsSmall (int_of o)) t.1 ∙
      int_is_small n t.0 fits t.1) refl
  constant_is_small (constant.Int Wide n) fits kind = refl
  constant_is_small (constant.Long n) fits kind = refl

  number_is_small : (pc : ℕ) (i : Instr) → Fits pc i → is_sound pool i ≡ true
      → list_all IsSmall (narrow_number (listed pool i)) ≡ true
  number_is_small pc instruction.Nop fits kind = refl
  number_is_small pc (instruction.Constant c) fits kind = constant_is_small c fits kind
  number_is_small pc (instruction.Local a) fits kind = refl
  number_is_small pc (instruction.Stack op) fits kind = refl
  number_is_small pc (instruction.Number op) fits kind = refl
  number_is_small pc (instruction.Branch t target) fits kind = refl
  number_is_small pc (instruction.TableSwitch s) fits kind = refl
  number_is_small pc (instruction.LookupSwitch s) fits kind = refl
  number_is_small pc (instruction.Return k) fits kind = refl
  number_is_small pc (instruction.Static a n) fits kind = refl
  number_is_small pc (instruction.Field a n) fits kind = refl
  number_is_small pc (instruction.Array op) fits kind = refl
  number_is_small pc (instruction.Class op n) fits kind = refl
  number_is_small pc (instruction.Invoke how n) fits kind = refl
  number_is_small pc instruction.Throw fits kind = refl
  number_is_small pc (instruction.Monitor op) fits kind = refl

  numbers_are_small : (items : List Located) → AllByRecursion (λ x. Fits x.pc x.instruction) items
      → AllByRecursion (λ x. is_sound pool x.instruction ≡ true) items
      → list_all IsSmall (flat_map (λ p. narrow_number p.instruction) (map (placed pool) items)) ≡ true
  numbers_are_small [] fits kinds = refl
  numbers_are_small (x ∷ items) fits kinds =
      all_joined IsSmall (narrow_number (listed pool x.instruction)) (flat_map (λ p. narrow_number p.instruction)
      (map (placed pool) items))
      (number_is_small x.pc x.instruction fits.0 kinds.0) (numbers_are_small items fits.1 kinds.1)

  body_is_small : (wanted : Bool) (o : Option CodePart) → CodesStand pool wanted o
      → list_all IsSmall (numbers_of_code (option_map (listed_code pool) o)) ≡ true
  body_is_small wanted None stand = refl
  body_is_small wanted (Some c) stand =
      let s = stand.1.spells in
      numbers_are_small c.instructions (each_fits pool 0 c.instructions s.code s.is_code.stand) s.sound

  methods_are_small : (ms : List MethodPart) → AllByRecursion (λ m. CodesStand pool (wants_code m.flags.0) m.code) ms
      → list_all IsSmall (ldc_numbers (map (listed_method pool) ms)) ≡ true
  methods_are_small [] all = refl
  methods_are_small (m ∷ ms) all =
      all_joined IsSmall (numbers_of_code (option_map (listed_code pool) m.code))
      (ldc_numbers (map (listed_method pool) ms))
      (body_is_small (wants_code m.flags.0) m.code all.0) (methods_are_small ms all.1)

  pub few_numbers : (ms : List MethodPart) → AllByRecursion (λ m. CodesStand pool (wants_code m.flags.0) m.code) ms
      → nat_le (length (different (ldc_numbers (map (listed_method pool) ms)))) 255 ≡ true
  few_numbers ms all =
      let numbers = ldc_numbers (map (listed_method pool) ms) in
      le-leb (length (different numbers)) 255
      (omega (arith, few_different (small_ints pool) numbers (methods_are_small ms all), few_ints pool))
