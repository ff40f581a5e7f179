-- Labels that pcs name lead back to the pcs.
use Rattle.std.proofs.Common.{◌≡◌, ℕ, ℤ, ◌+◌, ◌*◌, ◌<◌, ◌≤◌, Bool, true, false, ◌&&◌, ◌||◌, ◌==◌, List, [], ◌∷◌, ◌++◌}
use Rattle.std.proofs.Common.{map, bytes_eq, refl, sym, ap, ap₂, ◌∙◌, inl, inr, arith, le_refl, append-nil, eqb-true}
use Rattle.std.specs.List.{list_all}
use Rattle.std.proofs.lemmas.Bool.{and_parts, or_cases, or_right, cases_eq, false_from_ne_true}
use Rattle.std.proofs.lemmas.Fmt.{decimal_injective}
use Rattle.std.proofs.lemmas.Slice.Eq.{bytes_eq-Decides}
use Rattle.std.proofs.lemmas.List.{length-map}
use Rattle.model.specs.declared.instructions.ArrayOperation.{ArrayOperation}
use Rattle.model.specs.declared.instructions.ArrayOperation.TheVariants as array
use Rattle.model.specs.declared.instructions.Constant.{Constant}
use Rattle.model.specs.declared.instructions.Constant.TheVariants as constant
use Rattle.model.specs.declared.instructions.Increment.{Increment}
use Rattle.model.specs.declared.instructions.Increment.TheVariants as increment
use Rattle.model.specs.declared.instructions.Instruction.TheVariants as instruction
use Rattle.model.specs.declared.instructions.Invocation.{Invocation}
use Rattle.model.specs.declared.instructions.Invocation.TheVariants as invocation
use Rattle.model.specs.declared.instructions.Local.{Local}
use Rattle.model.specs.declared.instructions.Local.TheVariants as «local»
use Rattle.model.specs.declared.instructions.LocalAccess.{LocalAccess}
use Rattle.model.specs.declared.instructions.LocalAccess.TheVariants as access
use Rattle.model.specs.declared.instructions.Test.{Test}
use Rattle.model.specs.declared.instructions.Test.TheVariants as test
use Rattle.model.specs.declared.instructions.Width.TheVariants.{Narrow, Wide}
use Rattle.model.specs.declared.listings.Placed.{Placed}
use Rattle.model.specs.declared.trees.TextLine.{TextLine}
use Rattle.model.specs.declared.trees.TextLine.TheVariants.{Instruction}
use Rattle.model.specs.Sizes.{size_at, pad_at, constant_size, index_size, increment_size, local_size, branch_size}
use Rattle.model.specs.Sizes.{array_size, invoke_size}
use Rattle.model.specs.Table.Next.{Listed}
use Rattle.model.specs.Texts.Assembling.{end_from}
use Rattle.model.specs.Texts.Disassembling.{label, is_named, targets}
use Rattle.model.specs.Texts.Labels.{pc_of, with_targets}
use Rattle.model.specs.Texts.ListingOfTree.{placed_from}
use Rattle.model.specs.Texts.Spelled.{stand_from, is_pc}
use Rattle.disasm.specs.Back.{label_back, lines_back}
use Rattle.disasm.proofs.Back.Lists.{all_parts, map_again}

-- ---- labels

abbrev following_first : List ℕ → List ℕ
following_first [] = []
following_first (b ∷ bs) = bs

label_injective : (m n : ℕ) → m ≤ 65535 → n ≤ 65535 → label m ≡ label n → m ≡ n
label_injective m n a b e = decimal_injective m n (omega arith) (omega arith) (ap following_first e)

pub label_same : (m n : ℕ) → m ≡ n → bytes_eq (label m) (label n) ≡ true
label_same m n e = (bytes_eq-Decides (label m) (label n)).1 (ap label e)

pub label_other : (m n : ℕ) → m ≤ 65535 → n ≤ 65535 → (m ≡ n → ⊥) → bytes_eq (label m) (label n) ≡ false
label_other m n a b ne = false_from_ne_true (bytes_eq (label m) (label n))
    (λ e. ne (label_injective m n a b ((bytes_eq-Decides (label m) (label n)).0 e)))

-- ---- sizes

pub size_back : (f : ℕ → List ℕ) (pc : ℕ) (i : Listed) → size_at pc (with_targets f i) ≡ size_at pc i
size_back f pc instruction.Nop = refl
size_back f pc (instruction.Constant c) = refl
size_back f pc (instruction.Local a) = refl
size_back f pc (instruction.Stack o) = refl
size_back f pc (instruction.Number o) = refl
size_back f pc (instruction.Branch t n) = refl
size_back f pc (instruction.TableSwitch t) = ap (λ n. pad_at pc + 13 + 4 * n) (length-map t.targets f)
size_back f pc (instruction.LookupSwitch l) = ap (λ n. pad_at pc + 9 + 8 * n) (length-map l.pairs (λ p. (p.0, f p.1)))
size_back f pc (instruction.Return k) = refl
size_back f pc (instruction.Static a m) = refl
size_back f pc (instruction.Field a m) = refl
size_back f pc (instruction.Array o) = refl
size_back f pc (instruction.Class o c) = refl
size_back f pc (instruction.Invoke how m) = refl
size_back f pc instruction.Throw = refl
size_back f pc (instruction.Monitor o) = refl

constant_some : (c : Constant ℤ ℤ) → 1 ≤ constant_size c
constant_some constant.Null = omega arith
constant_some (constant.SmallInt n) = omega arith
constant_some (constant.SmallLong n) = omega arith
constant_some (constant.Byte n) = omega arith
constant_some (constant.Short n) = omega arith
constant_some (constant.Int Narrow n) = omega arith
constant_some (constant.Int Wide n) = omega arith
constant_some (constant.Long n) = omega arith

index_some : (l : Local) → 1 ≤ index_size l
index_some («local».First n) = omega arith
index_some («local».Byte n) = omega arith
index_some («local».Wide n) = omega arith

increment_some : (i : Increment) → 1 ≤ increment_size i
increment_some (increment.Byte n z) = omega arith
increment_some (increment.Wide n z) = omega arith

local_some : (a : LocalAccess) → 1 ≤ local_size a
local_some (access.Load k l) = index_some l
local_some (access.Store k l) = index_some l
local_some (access.Increment i) = increment_some i

branch_some : (t : Test) → 1 ≤ branch_size t
branch_some (test.Always Narrow) = omega arith
branch_some (test.Always Wide) = omega arith
branch_some (test.Zero c) = omega arith
branch_some (test.Ints c) = omega arith
branch_some (test.Refs i) = omega arith
branch_some (test.Null i) = omega arith

array_some : (a : ArrayOperation (List ℕ)) → 1 ≤ array_size a
array_some (array.New p) = omega arith
array_some (array.NewOf c) = omega arith
array_some array.Length = omega arith
array_some (array.Load k) = omega arith
array_some (array.Store k) = omega arith

invoke_some : (i : Invocation) → 1 ≤ invoke_size i
invoke_some invocation.Virtual = omega arith
invoke_some invocation.Special = omega arith
invoke_some invocation.Static = omega arith
invoke_some (invocation.Interface n) = omega arith

pub size_some : (pc : ℕ) (i : Listed) → 1 ≤ size_at pc i
size_some pc instruction.Nop = omega arith
size_some pc (instruction.Constant c) = constant_some c
size_some pc (instruction.Local a) = local_some a
size_some pc (instruction.Stack o) = omega arith
size_some pc (instruction.Number o) = omega arith
size_some pc (instruction.Branch t n) = branch_some t
size_some pc (instruction.TableSwitch t) = omega arith
size_some pc (instruction.LookupSwitch l) = omega arith
size_some pc (instruction.Return k) = omega arith
size_some pc (instruction.Static a m) = omega arith
size_some pc (instruction.Field a m) = omega arith
size_some pc (instruction.Array o) = array_some o
size_some pc (instruction.Class o c) = omega arith
size_some pc (instruction.Invoke how m) = invoke_some how
size_some pc instruction.Throw = omega arith
size_some pc (instruction.Monitor o) = omega arith

-- ---- pcs rise

-- what the first of instructions that stand one after the other is
pub record First (pc : ℕ) (p : Placed) (ps : List Placed) : Type 0 where
  pub at : p.pc ≡ pc
  pub next : p.next ≡ pc + size_at pc p.instruction
  pub others : stand_from p.next ps ≡ true

pub first_of : (pc : ℕ) (p : Placed) (ps : List Placed) → stand_from pc (p ∷ ps) ≡ true → First pc p ps
first_of pc p ps e =
    let one = and_parts (p.pc == pc && p.next == pc + size_at pc p.instruction) (stand_from p.next ps) e in
    let two = and_parts (p.pc == pc) (p.next == pc + size_at pc p.instruction) one.0 in
    record { at = eqb-true p.pc pc two.0; next = eqb-true p.next (pc + size_at pc p.instruction) two.1; others = one.1 }

pub rises : (pc : ℕ) (ps : List Placed) → stand_from pc ps ≡ true → pc ≤ end_from pc ps
rises pc [] s = le_refl pc
rises pc (p ∷ ps) s =
    let h = first_of pc p ps s in
    let r = rises p.next ps h.others in
    let e = h.next in
    omega (arith, r, e)

pub pc_inside : (pc : ℕ) (ps : List Placed) (n : ℕ) → stand_from pc ps ≡ true → is_pc ps n ≡ true → (pc ≤ n)
    × (n < end_from pc ps)
pc_inside pc [] n s e = absurd cc
pc_inside pc (p ∷ ps) n s e =
    let h = first_of pc p ps s in
    let at = h.at in
    let next = h.next in
    let some = size_some pc p.instruction in
    let r = rises p.next ps h.others in
    elim (or_cases (p.pc == n) (is_pc ps n) e) [
      | inl same ↦ let here = eqb-true p.pc n same in (omega (arith, here, at), omega (arith, here, at, next, some, r))
      | inr later ↦ let i = pc_inside p.next ps n h.others later in (omega (arith, i.0, next), i.1)
    ]

-- the pc of an instruction, or the one after the last
abbrev pub is_bound_from : ℕ → List Placed → ℕ → Bool
is_bound_from pc ps n = is_pc ps n || end_from pc ps == n

pub bound_inside : (pc : ℕ) (ps : List Placed) (n : ℕ) → stand_from pc ps ≡ true → is_bound_from pc ps n ≡ true
    → n ≤ end_from pc ps
bound_inside pc ps n s e = elim (or_cases (is_pc ps n) (end_from pc ps == n) e) [
  | inl one ↦ let i = pc_inside pc ps n s one in omega (arith, i.1)
  | inr two ↦ let same = eqb-true (end_from pc ps) n two in omega (arith, same)
]

-- ---- the pc of a label

here : (b : Bool) (pc at n : ℕ) (lines : List TextLine) → b ≡ true → at ≡ pc → at ≡ n
    → pc_of pc (label_back b at ++ lines) (label n) ≡ n
here true pc at n lines e s t = rw (label_same at n t) (sym s ∙ t)
here false pc at n lines e s t = absurd cc

elsewhere : (b : Bool) (pc at n : ℕ) (lines : List TextLine) → bytes_eq (label at) (label n) ≡ false
    → pc_of pc (label_back b at ++ lines) (label n) ≡ pc_of pc lines (label n)
elsewhere true pc at n lines other = rw other refl
elsewhere false pc at n lines other = refl

step : (pc next : ℕ) (i : Listed) (rest : List TextLine) (n : ℕ) → next ≡ pc + size_at pc i
    → pc_of pc (Instruction (with_targets label i) ∷ rest) (label n) ≡ pc_of next rest (label n)
step pc next i rest n e = ap (λ k. pc_of k rest (label n)) (ap (λ k. pc + k) (size_back label pc i) ∙ sym e)

pub other_bound : (p : Placed) (ps : List Placed) (n : ℕ) → is_bound_from p.pc (p ∷ ps) n ≡ true → (p.pc ≡ n → ⊥)
    → is_bound_from p.next ps n ≡ true
other_bound p ps n e other = elim (or_cases (is_pc (p ∷ ps) n) (end_from p.next ps == n) e) [
  | inl one ↦ elim (or_cases (p.pc == n) (is_pc ps n) one) [
    | inl same ↦ absurd (other (eqb-true p.pc n same))
    | inr two ↦ rw two refl
  ]
  | inr two ↦ or_right (is_pc ps n) (end_from p.next ps == n) two
]

pub pc_found : (pcs : List ℕ) (pc : ℕ) (ps : List Placed) (n : ℕ) → stand_from pc ps ≡ true → end_from pc ps ≤ 65535
    → is_named pcs n ≡ true → is_bound_from pc ps n ≡ true → pc_of pc (lines_back pcs pc ps) (label n) ≡ n
pc_found pcs pc [] n s small named at =
    let same : pc ≡ n = eqb-true pc n at in
    ap (λ lines. pc_of pc lines (label n)) (sym (append-nil (label_back (is_named pcs pc) pc)))
    ∙ here (is_named pcs pc) pc pc n [] (ap (is_named pcs) same ∙ named) refl same
pc_found pcs pc (p ∷ ps) n s small named at =
    let h = first_of pc p ps s in
    let lines = Instruction (with_targets label p.instruction) ∷ lines_back pcs p.next ps in
    let inside = bound_inside pc (p ∷ ps) n s at in
    let risen = rises pc (p ∷ ps) s in
    let same_pc = h.at in
    elim (cases_eq p.pc n) [
      | inl same ↦ here (is_named pcs p.pc) pc p.pc n lines (ap (is_named pcs) same ∙ named) h.at same
      | inr other ↦ elsewhere (is_named pcs p.pc) pc p.pc n lines
          (label_other p.pc n (omega (arith, small, risen, same_pc)) (omega (arith, small, inside)) other)
          ∙ step pc p.next p.instruction (lines_back pcs p.next ps) n h.next
          ∙ pc_found pcs p.next ps n h.others small named (other_bound p ps n at other)
    ]

-- ---- what labels lead back to

pairs_targets : (good : ℕ → Bool) (pairs : List (ℤ × ℕ)) → list_all good (map (λ p. p.1) pairs) ≡ true
    → list_all (λ (p : ℤ × ℕ). good p.1) pairs ≡ true
pairs_targets good [] e = refl
pairs_targets good (p ∷ ps) e = let parts = and_parts (good p.1) (list_all good (map (λ q. q.1) ps)) e
    in rw (parts.0, pairs_targets good ps parts.1) refl

module _ (f : List ℕ → ℕ) (good : ℕ → Bool) (back : (n : ℕ) → good n ≡ true → f (label n) ≡ n) where
  pub targets_back : (i : Listed) → list_all good (targets i) ≡ true → with_targets f (with_targets label i) ≡ i
  targets_back instruction.Nop e = refl
  targets_back (instruction.Constant c) e = refl
  targets_back (instruction.Local a) e = refl
  targets_back (instruction.Stack o) e = refl
  targets_back (instruction.Number o) e = refl
  targets_back (instruction.Branch t n) e = ap (instruction.Branch t) (back n (and_parts (good n) true e).0)
  targets_back (instruction.TableSwitch t) e =
      let parts = all_parts good t.targets (t.default ∷ []) e in
      ap₂ (λ xs d. instruction.TableSwitch (record { low = t.low; targets = xs; default = d }))
      (map_again label f good back t.targets parts.0) (back t.default (and_parts (good t.default) true parts.1).0)
  targets_back (instruction.LookupSwitch l) e =
      let parts = all_parts good (map (λ p. p.1) l.pairs) (l.default ∷ []) e in
      ap₂ (λ xs d. instruction.LookupSwitch (record { pairs = xs; default = d }))
      (map_again (λ (p : ℤ × ℕ). (p.0, label p.1)) (λ (p : ℤ × List ℕ). (p.0, f p.1)) (λ (p : ℤ × ℕ). good p.1)
      (λ p g. ap (λ n. (p.0, n)) (back p.1 g)) l.pairs (pairs_targets good l.pairs parts.0))
      (back l.default (and_parts (good l.default) true parts.1).0)
  targets_back (instruction.Return k) e = refl
  targets_back (instruction.Static a m) e = refl
  targets_back (instruction.Field a m) e = refl
  targets_back (instruction.Array o) e = refl
  targets_back (instruction.Class o c) e = refl
  targets_back (instruction.Invoke how m) e = refl
  targets_back instruction.Throw e = refl
  targets_back (instruction.Monitor o) e = refl

  unlabelled : (b : Bool) (pc at : ℕ) (lines : List TextLine) → placed_from f pc (label_back b at ++ lines)
      ≡ placed_from f pc lines
  unlabelled true pc at lines = refl
  unlabelled false pc at lines = refl

  placed_is : (pc next : ℕ) (i : Listed) (p : Placed) → p.pc ≡ pc → p.next ≡ next → i ≡ p.instruction
      → record { pc = pc; next = next; instruction = i } ≡ p
  placed_is pc next i p a b e = ap₂ (λ x y. let q : Placed = record { pc = x; next = y; instruction = i } in q)
      (sym a) (sym b) ∙ ap (λ j. let q : Placed = record { pc = p.pc; next = p.next; instruction = j } in q) e

  pub placed_back : (pcs : List ℕ) (pc : ℕ) (ps : List Placed) → stand_from pc ps ≡ true
      → list_all (λ p. list_all good (targets p.instruction)) ps ≡ true → placed_from f pc (lines_back pcs pc ps) ≡ ps
  placed_back pcs pc [] s e = ap (placed_from f pc) (sym (append-nil (label_back (is_named pcs pc) pc)))
      ∙ unlabelled (is_named pcs pc) pc pc []
  placed_back pcs pc (p ∷ ps) s e =
      let h = first_of pc p ps s in
      let parts = and_parts (list_all good (targets p.instruction))
      (list_all (λ q. list_all good (targets q.instruction)) ps) e in
      let i = with_targets label p.instruction in
      let rest = lines_back pcs p.next ps in
      let next : p.next ≡ pc + size_at pc i = h.next ∙ ap (λ k. pc + k) (sym (size_back label pc p.instruction)) in
      unlabelled (is_named pcs p.pc) pc p.pc (Instruction i ∷ rest)
      ∙ ap₂ (λ x xs. x ∷ xs) (placed_is pc (pc + size_at pc i) (with_targets f i) p h.at next
      (targets_back p.instruction parts.0)) (ap (λ k. placed_from f k rest) (sym next)
      ∙ placed_back pcs p.next ps h.others parts.1)
