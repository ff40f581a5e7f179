-- The numbers that `ldc` uses in a listing go with `ldc` in its text.
use Rattle.std.proofs.Common.{◌≡◌, ℕ, ℤ, Bool, true, false, not, ◌||◌, cond, List, [], ◌∷◌, ◌++◌, map, filter, flat_map}
use Rattle.std.proofs.Common.{Option, Some, None, refl, sym, ap, ap₂, ◌∙◌, inl, inr}
use Rattle.std.specs.List.{list_all}
use Rattle.std.specs.Option.{option_map}
use Rattle.std.specs.Ordering.{int_eq}
use Rattle.std.proofs.lemmas.Bool.{and_parts, and_from, or_left, or_right, cases_Bool}
use Rattle.std.proofs.lemmas.Bool.Decides.{Decides-int_eq}
use Rattle.model.specs.declared.instructions.Constant.{Constant}
use Rattle.model.specs.declared.instructions.Constant.TheVariants as constant
use Rattle.model.specs.declared.instructions.Instruction.TheVariants as instruction
use Rattle.model.specs.declared.instructions.Width.TheVariants.{Narrow, Wide}
use Rattle.model.specs.declared.listings.Method.{Method}
use Rattle.model.specs.declared.listings.Placed.{Placed}
use Rattle.model.specs.declared.trees.TextLine.{TextLine}
use Rattle.model.specs.declared.trees.TextLine.TheVariants.{Label, Instruction}
use Rattle.model.specs.CodeListings.{CodeListing}
use Rattle.model.specs.Table.Next.{Listed}
use Rattle.model.specs.Texts.Disassembling.{label, is_named}
use Rattle.model.specs.Texts.Instructions.{Written}
use Rattle.model.specs.Texts.Labels.{with_targets}
use Rattle.model.specs.Texts.Spelled.{narrow_constant, narrow_number, numbers_of_code, ldc_numbers}
use Rattle.model.specs.Texts.Widths.{ldc_before, used_before, used_in, used_in_body, used_in_methods, is_among}
use Rattle.model.specs.Texts.Widths.{different, widened_constant, widened, widened_line}
use Rattle.disasm.specs.Back.{label_back, lines_back, body_back, method_back}

-- ---- the numbers that are used

used_constant : (c : Constant ℤ ℤ) (zs : List ℤ) → ldc_before c zs ≡ narrow_constant c ++ zs
used_constant constant.Null zs = refl
used_constant (constant.SmallInt n) zs = refl
used_constant (constant.SmallLong n) zs = refl
used_constant (constant.Byte n) zs = refl
used_constant (constant.Short n) zs = refl
used_constant (constant.Int Narrow n) zs = refl
used_constant (constant.Int Wide n) zs = refl
used_constant (constant.Long n) zs = refl

used_instruction : (i : Listed) (zs : List ℤ) → used_before (with_targets label i) zs ≡ narrow_number i ++ zs
used_instruction instruction.Nop zs = refl
used_instruction (instruction.Constant c) zs = used_constant c zs
used_instruction (instruction.Local a) zs = refl
used_instruction (instruction.Stack o) zs = refl
used_instruction (instruction.Number o) zs = refl
used_instruction (instruction.Branch t n) zs = refl
used_instruction (instruction.TableSwitch t) zs = refl
used_instruction (instruction.LookupSwitch l) zs = refl
used_instruction (instruction.Return k) zs = refl
used_instruction (instruction.Static a m) zs = refl
used_instruction (instruction.Field a m) zs = refl
used_instruction (instruction.Array o) zs = refl
used_instruction (instruction.Class o c) zs = refl
used_instruction (instruction.Invoke how m) zs = refl
used_instruction instruction.Throw zs = refl
used_instruction (instruction.Monitor o) zs = refl

used_label : (b : Bool) (pc : ℕ) (lines : List TextLine) → used_in (label_back b pc ++ lines) ≡ used_in lines
used_label true pc lines = refl
used_label false pc lines = refl

used_end : (b : Bool) (pc : ℕ) → used_in (label_back b pc) ≡ []
used_end true pc = refl
used_end false pc = refl

used_back : (pcs : List ℕ) (pc : ℕ) (ps : List Placed) → used_in (lines_back pcs pc ps)
    ≡ flat_map (λ p. narrow_number p.instruction) ps
used_back pcs pc [] = used_end (is_named pcs pc) pc
used_back pcs pc (p ∷ ps) =
    let rest = lines_back pcs p.next ps in
    used_label (is_named pcs p.pc) p.pc (Instruction (with_targets label p.instruction) ∷ rest)
    ∙ used_instruction p.instruction (used_in rest)
    ∙ ap (λ zs. narrow_number p.instruction ++ zs) (used_back pcs p.next ps)

pub used_code : (o : Option CodeListing) → used_in_body (option_map body_back o) ≡ numbers_of_code o
used_code None = refl
used_code (Some c) = used_back (body_pcs c) 0 c.instructions
  where
    body_pcs : CodeListing → List ℕ
    body_pcs d = Rattle.model.specs.Texts.Disassembling.named_pcs d

pub used_methods : (ms : List Method) → used_in_methods (map method_back ms) ≡ ldc_numbers ms
used_methods [] = refl
used_methods (m ∷ ms) = ap₂ (λ xs ys. xs ++ ys) (used_code m.code) (used_methods ms)

-- ---- numbers among the different ones

pub among_kept : (x z : ℤ) (ds : List ℤ) → int_eq x z ≡ false → is_among (filter (λ y. not (int_eq x y)) ds) z
    ≡ is_among ds z
among_kept x z [] other = refl
among_kept x z (d ∷ ds) other = elim (cases_Bool (int_eq x d)) [
  | inl same ↦ ap (λ b. is_among (cond (not b) (d ∷ filter (λ y. not (int_eq x y)) ds)
      (filter (λ y. not (int_eq x y)) ds)) z) same ∙ among_kept x z ds other
      ∙ ap (λ b. b || is_among ds z) (sym (ap (λ y. int_eq y z) (sym ((Decides-int_eq x d).0 same)) ∙ other))
  | inr apart ↦ ap (λ b. is_among (cond (not b) (d ∷ filter (λ y. not (int_eq x y)) ds)
      (filter (λ y. not (int_eq x y)) ds)) z) apart
      ∙ ap (λ b. int_eq d z || b) (among_kept x z ds other)
]

among_different : (zs : List ℤ) (z : ℤ) → is_among zs z ≡ true → is_among (different zs) z ≡ true
among_different [] z e = e
among_different (x ∷ zs) z e =
    let others = filter (λ y. not (int_eq x y)) (different zs) in
    elim (cases_Bool (int_eq x z)) [
      | inl same ↦ or_left (int_eq x z) (is_among others z) same
      | inr apart ↦ or_right (int_eq x z) (is_among others z) (among_kept x z (different zs) apart
          ∙ among_different zs z (ap (λ b. b || is_among zs z) (sym apart) ∙ e))
    ]

among_each : (all zs : List ℤ) → ((z : ℤ) → is_among zs z ≡ true → is_among all z ≡ true) → list_all (is_among all) zs
    ≡ true
among_each all [] f = refl
among_each all (x ∷ zs) f =
    and_from (is_among all x) (list_all (is_among all) zs)
    (f x (or_left (int_eq x x) (is_among zs x) ((Decides-int_eq x x).1 refl)))
    (among_each all zs (λ z e. f z (or_right (int_eq x z) (is_among zs z) e)))

pub all_among : (zs : List ℤ) → list_all (is_among (different zs)) zs ≡ true
all_among zs = among_each (different zs) zs (among_different zs)

-- ---- what is not widened

module _ (narrow : List ℤ) where
  unwidened_constant : (c : Constant ℤ ℤ) (zs : List ℤ) → list_all (is_among narrow) (ldc_before c zs) ≡ true
      → (widened_constant narrow c ≡ c) × (list_all (is_among narrow) zs ≡ true)
  unwidened_constant constant.Null zs e = (refl, e)
  unwidened_constant (constant.SmallInt n) zs e = (refl, e)
  unwidened_constant (constant.SmallLong n) zs e = (refl, e)
  unwidened_constant (constant.Byte n) zs e = (refl, e)
  unwidened_constant (constant.Short n) zs e = (refl, e)
  unwidened_constant (constant.Int Narrow n) zs e = let parts = and_parts (is_among narrow n)
      (list_all (is_among narrow) zs) e
      in (rw (parts.0) refl, parts.1)
  unwidened_constant (constant.Int Wide n) zs e = (refl, e)
  unwidened_constant (constant.Long n) zs e = (refl, e)

  unwidened : (i : Written) (zs : List ℤ) → list_all (is_among narrow) (used_before i zs) ≡ true
      → (widened narrow i ≡ i) × (list_all (is_among narrow) zs ≡ true)
  unwidened instruction.Nop zs e = (refl, e)
  unwidened (instruction.Constant c) zs e = let both = unwidened_constant c zs e
      in (ap (λ x. instruction.Constant x) both.0, both.1)
  unwidened (instruction.Local a) zs e = (refl, e)
  unwidened (instruction.Stack o) zs e = (refl, e)
  unwidened (instruction.Number o) zs e = (refl, e)
  unwidened (instruction.Branch t n) zs e = (refl, e)
  unwidened (instruction.TableSwitch t) zs e = (refl, e)
  unwidened (instruction.LookupSwitch l) zs e = (refl, e)
  unwidened (instruction.Return k) zs e = (refl, e)
  unwidened (instruction.Static a m) zs e = (refl, e)
  unwidened (instruction.Field a m) zs e = (refl, e)
  unwidened (instruction.Array o) zs e = (refl, e)
  unwidened (instruction.Class o c) zs e = (refl, e)
  unwidened (instruction.Invoke how m) zs e = (refl, e)
  unwidened instruction.Throw zs e = (refl, e)
  unwidened (instruction.Monitor o) zs e = (refl, e)

  pub unwidened_lines : (lines : List TextLine) → list_all (is_among narrow) (used_in lines) ≡ true
      → map (widened_line narrow) lines ≡ lines
  unwidened_lines [] e = refl
  unwidened_lines (Label l ∷ lines) e = ap (λ xs. Label l ∷ xs) (unwidened_lines lines e)
  unwidened_lines (Instruction i ∷ lines) e =
      let both = unwidened i (used_in lines) e in
      ap₂ (λ x xs. Instruction x ∷ xs) both.0 (unwidened_lines lines both.1)
