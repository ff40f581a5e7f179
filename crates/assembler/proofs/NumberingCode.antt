-- The code of a text's listing has bytes, with numbers for names.
use Rattle.std.proofs.Common.{◌≡◌, ℕ, ℤ, pos, ◌+◌, ◌≤◌, ◌==◌, Bool, true, List, [], ◌∷◌, ◌++◌, map, length, refl, sym}
use Rattle.std.proofs.Common.{ap, ◌∙◌, inl, inr, arith, length-append}
use Rattle.std.specs.Prelude.{nat_le, int_le, FitsSigned, ◌+ℤ◌, ◌-ℤ◌, ◌<ℤ◌}
use Rattle.std.specs.Int.{w32}
use Rattle.std.specs.Int.Signed.{lt_z}
use Rattle.std.specs.List.{list_all, AllByRecursion}
use Rattle.std.proofs.lemmas.Bool.{and_parts, and_from, or_cases, leb-true, eqb-true, false≢true}
use Rattle.std.proofs.lemmas.Int.{ints}
use Rattle.std.proofs.lemmas.List.Folds.{list_all-append}
use Rattle.model.specs.Bytecode.{spelling, targets, StandFrom, IsPc, IsCode}
use Rattle.model.specs.Bytecode.Fields.{offset}
use Rattle.model.specs.Bytecode.Operands.{table_high}
use Rattle.model.specs.Bytecode.Ranges.{AreRising, AreRisingFrom, TableFits, LookupFits, Fits}
use Rattle.model.specs.ClassFiles.Items.{Item, instruction_items, placed_items}
use Rattle.model.specs.ClassFiles.Items.Item.{field_item, class_item}
use Rattle.model.specs.Sizes.{size_at}
use Rattle.model.specs.Switches.{Table, Lookup}
use Rattle.model.specs.Table.Next.{Listed}
use Rattle.model.specs.Texts.Assembling.{rise_from, keys_rise, switch_agrees, reaches, end_from}
use Rattle.model.specs.Texts.Disassembling.{targets as goals}
use Rattle.model.specs.Texts.Spelled.{is_int, table_is_spelled, lookup_is_spelled, count_is_spelled, method_is_named}
use Rattle.model.specs.Texts.Spelled.{operands_are_spelled, stand_from, is_pc, narrow_number}
use Rattle.model.specs.declared.instructions.Instruction.TheVariants as instruction
use Rattle.model.specs.declared.listings.Placed.{Placed}
use Rattle.model.proofs.SizeLaws.{listed_size}
use Rattle.classfile.specs.Writing.{code_bytes}
use Rattle.assembler.specs.Numbering.{entries_of, are_items_of, IsPool, numbered, numbered_placed}
use Rattle.assembler.proofs.NumberingCounts.{number_fits}
use Rattle.assembler.proofs.NumberingListed.{class_there, member_there, listed_numbered}
use Rattle.assembler.proofs.NumberingSound.{int_fits}
use Rattle.assembler.proofs.NumberingFits.{AreSmall, way_fits, constant_fits, access_fits, branch_fits, array_fits}
use Rattle.assembler.proofs.NumberingFits.{call_fits}

-- ---- switches

-- pcs of a method
abbrev pub AreLow : List ℕ → Type 0
AreLow ns = AllByRecursion (λ n. n ≤ 65535) ns

ways_fit : (pc : ℕ) (ns : List ℕ) → pc ≤ 65535 → AreLow ns → AllByRecursion (λ t. FitsSigned w32 (offset pc t)) ns
ways_fit pc [] low all = tt
ways_fit pc (n ∷ ns) low all = (way_fits pc n low all.0, ways_fit pc ns low all.1)

high_fits : (low : ℤ) (n : ℕ) → FitsSigned w32 low → 1 ≤ n → int_le (low +ℤ pos n -ℤ pos 1) (pos 2147483647) ≡ true
    → FitsSigned w32 (low +ℤ pos n -ℤ pos 1)
high_fits low n fits some h = grind (arith, ints)

low_parts : (xs : List ℕ) (y : ℕ) → AreLow (xs ++ y ∷ []) → AreLow xs × (y ≤ 65535)
low_parts [] y all = (tt, all.0)
low_parts (x ∷ xs) y all = let rest = low_parts xs y all.1 in ((all.0, rest.0), rest.1)

table_fits : (pc : ℕ) (s : Table ℕ) → pc ≤ 65535 → AreLow (s.targets ++ s.default ∷ []) → table_is_spelled s ≡ true
    → int_le (table_high s) (pos 2147483647) ≡ true → TableFits pc s
table_fits pc s low all h agrees =
    let parts = low_parts s.targets s.default all in
    let p = and_parts (is_int s.low) (nat_le 1 (length s.targets)) h in
    let some = leb-true 1 (length s.targets) p.1 in
    record {
      some = some;
      low = int_fits s.low p.0;
      high = high_fits s.low (length s.targets) (int_fits s.low p.0) some agrees;
      default = way_fits pc s.default low parts.1;
      targets = ways_fit pc s.targets low parts.0;
    }

pairs_fit : (pc : ℕ) (ps : List (ℤ × ℕ)) → pc ≤ 65535 → AreLow (map (λ p. p.1) ps) → list_all (λ p. is_int p.0) ps
    ≡ true → AllByRecursion (λ p. FitsSigned w32 p.0 × FitsSigned w32 (offset pc p.1)) ps
pairs_fit pc [] low all h = tt
pairs_fit pc (p ∷ ps) low all h =
    let q = and_parts (is_int p.0) (list_all (λ r. is_int r.0) ps) h in
    ((int_fits p.0 q.0, way_fits pc p.1 low all.0), pairs_fit pc ps low all.1 q.1)

key_below : (a b : ℤ) → lt_z a b ≡ true → a <ℤ b
key_below a b h = grind (arith, ints)

rising_from : (key : ℤ) (ps : List (ℤ × ℕ)) → rise_from key ps ≡ true → AreRisingFrom key ps
rising_from key [] h = tt
rising_from key (p ∷ ps) h = let q = and_parts (lt_z key p.0) (rise_from p.0 ps) h
    in (key_below key p.0 q.0, rising_from p.0 ps q.1)

rising : (ps : List (ℤ × ℕ)) → keys_rise ps ≡ true → AreRising ps
rising [] h = tt
rising (p ∷ ps) h = rising_from p.0 ps h

lookup_fits : (pc : ℕ) (s : Lookup ℕ) → pc ≤ 65535 → length s.pairs ≤ 65535
    → AreLow (map (λ p. p.1) s.pairs ++ s.default ∷ []) → lookup_is_spelled s ≡ true → keys_rise s.pairs ≡ true
    → LookupFits pc s
lookup_fits pc s low few all h agrees =
    let parts = low_parts (map (λ p. p.1) s.pairs) s.default all in
    record {
      few = omega (arith, few);
      default = way_fits pc s.default low parts.1;
      pairs = pairs_fit pc s.pairs low parts.0 h;
      rising = rising s.pairs agrees;
    }

-- ---- an instruction

-- an instruction has a spelling with numbers for names
pub numbered_fits : (items : List Item) (pc : ℕ) (i : Listed) → IsPool items → are_items_of items (instruction_items i)
    ≡ true → operands_are_spelled i ≡ true → switch_agrees i ≡ true → reaches pc i ≡ true
    → pc + size_at pc i ≤ 65535 → AreLow (goals i) → AreSmall items (narrow_number i) → Fits pc (numbered items i)
numbered_fits items pc instruction.Nop pool all h agrees way size low small = tt
numbered_fits items pc (instruction.Constant c) pool all h agrees way size low small = constant_fits items c pool all h
    small
numbered_fits items pc (instruction.Local a) pool all h agrees way size low small = access_fits a h
numbered_fits items pc (instruction.Stack op) pool all h agrees way size low small = tt
numbered_fits items pc (instruction.Number op) pool all h agrees way size low small = tt
numbered_fits items pc (instruction.Branch t target) pool all h agrees way size low small = branch_fits t pc target
    (omega (arith, size)) low.0 way
numbered_fits items pc (instruction.TableSwitch s) pool all h agrees way size low small = table_fits pc s
    (omega (arith, size)) low h agrees
numbered_fits items pc (instruction.LookupSwitch s) pool all h agrees way size low small = lookup_fits pc s
    (omega (arith, size)) (omega (arith, size)) low h agrees
numbered_fits items pc (instruction.Return kind) pool all h agrees way size low small = tt
numbered_fits items pc (instruction.Static access m) pool all h agrees way size low small = number_fits items
    (field_item m) pool (member_there items (field_item m) m all)
numbered_fits items pc (instruction.Field access m) pool all h agrees way size low small = number_fits items
    (field_item m) pool (member_there items (field_item m) m all)
numbered_fits items pc (instruction.Array op) pool all h agrees way size low small = array_fits items op pool all
numbered_fits items pc (instruction.Class op name) pool all h agrees way size low small = number_fits items
    (class_item name) pool (class_there items name all)
numbered_fits items pc (instruction.Invoke how m) pool all h agrees way size low small = call_fits items how m pool all
    (and_parts (count_is_spelled how) (method_is_named m) h).0
numbered_fits items pc instruction.Throw pool all h agrees way size low small = tt
numbered_fits items pc (instruction.Monitor op) pool all h agrees way size low small = tt

-- the size of its spelling
pub numbered_size : (items : List Item) (pc : ℕ) (i : Listed) → IsPool items → are_items_of items (instruction_items i)
    ≡ true → length (spelling pc (numbered items i)) ≡ size_at pc i
numbered_size items pc i pool all = sym (listed_size (entries_of items) pc (numbered items i))
    ∙ ap (size_at pc) (listed_numbered items i pool.closed all)

-- ---- code

-- what is said of an instruction of some code, and of where it stands
pub record IsReady (items : List Item) (of : List Placed) (p : Placed) : Type 0 where
  pub there : are_items_of items (placed_items p) ≡ true
  pub operands : operands_are_spelled p.instruction ≡ true
  pub lands : list_all (is_pc of) (goals p.instruction) ≡ true
  pub agrees : switch_agrees p.instruction ≡ true
  pub way : reaches p.pc p.instruction ≡ true
  pub small : AreSmall items (narrow_number p.instruction)

low_goals : (of : List Placed) (ns : List ℕ) → ((n : ℕ) → is_pc of n ≡ true → n ≤ 65535) → list_all (is_pc of) ns ≡ true
    → AreLow ns
low_goals of [] below h = tt
low_goals of (n ∷ ns) below h = let p = and_parts (is_pc of n) (list_all (is_pc of) ns) h
    in (below n p.0, low_goals of ns below p.1)

end_after : (pc : ℕ) (ps : List Placed) → stand_from pc ps ≡ true → pc ≤ end_from pc ps
end_after pc [] h = omega arith
end_after pc (p ∷ ps) h =
    let a = and_parts _ (stand_from p.next ps) h in
    let b = and_parts (p.pc == pc) (p.next == pc + size_at pc p.instruction) a.0 in
    let next = eqb-true p.next (pc + size_at pc p.instruction) b.1 in
    omega (arith, next, end_after p.next ps a.1)

stands : (items : List Item) (of : List Placed) (pc : ℕ) (ps : List Placed) → IsPool items
    → ((n : ℕ) → is_pc of n ≡ true → n ≤ 65535) → stand_from pc ps ≡ true → end_from pc ps ≤ 65535
    → AllByRecursion (IsReady items of) ps
    → StandFrom pc (map (numbered_placed items) ps) (code_bytes (map (numbered_placed items) ps))
    × (pc + length (code_bytes (map (numbered_placed items) ps)) ≡ end_from pc ps)
stands items of pc [] pool below h end all = (refl, omega arith)
stands items of pc (p ∷ ps) pool below h end all =
    let a = and_parts _ (stand_from p.next ps) h in
    let b = and_parts (p.pc == pc) (p.next == pc + size_at pc p.instruction) a.0 in
    let here : p.pc ≡ pc = eqb-true p.pc pc b.0 in
    let next : p.next ≡ pc + size_at pc p.instruction = eqb-true p.next (pc + size_at pc p.instruction) b.1 in
    let following = end_after p.next ps a.1 in
    let size = numbered_size items pc p.instruction pool all.0.there in
    let rest = stands items of p.next ps pool below a.1 end all.1 in
    let way : reaches pc p.instruction ≡ true = ap (λ k. reaches k p.instruction) (sym here) ∙ all.0.way in
    let code = code_bytes (map (numbered_placed items) ps) in
    let lengths = length-append (spelling p.pc (numbered items p.instruction)) code in
    let same = ap (λ k. length (spelling k (numbered items p.instruction))) here in (
      (
        code,
        record {
          at = here;
          fits = numbered_fits items pc p.instruction pool all.0.there all.0.operands all.0.agrees way
              (omega (arith, next, following, end)) (low_goals of (goals p.instruction) below all.0.lands) all.0.small;
          bytes_are = ap (λ k. spelling k (numbered items p.instruction) ++ code) here;
          next = next ∙ ap (λ k. pc + k) (sym size);
        },
        rest.0,
      ),
      omega (arith, lengths, same, size, next, rest.1),
    )

-- ---- targets

a_pc : (items : List Item) (of : List Placed) (n : ℕ) → is_pc of n ≡ true → IsPc (map (numbered_placed items) of) n
a_pc items [] n h = absurd (false≢true h)
a_pc items (p ∷ of) n h = elim (or_cases (p.pc == n) (is_pc of n) h) [
  | inl e ↦ inl (eqb-true p.pc n e)
  | inr r ↦
      inr (a_pc items of n r)
]

pcs : (items : List Item) (of : List Placed) (ns : List ℕ) → list_all (is_pc of) ns ≡ true
    → AllByRecursion (IsPc (map (numbered_placed items) of)) ns
pcs items of [] h = tt
pcs items of (n ∷ ns) h = let p = and_parts (is_pc of n) (list_all (is_pc of) ns) h
    in (a_pc items of n p.0, pcs items of ns p.1)

last_first : (test : ℕ → Bool) (ns : List ℕ) (n : ℕ) → list_all test (ns ++ n ∷ []) ≡ true → list_all test (n ∷ ns)
    ≡ true
last_first test ns n h =
    let p = and_parts (list_all test ns) (list_all test (n ∷ [])) (sym (list_all-append test ns (n ∷ [])) ∙ h) in
    let q = and_parts (test n) true p.1 in
    and_from (test n) (list_all test ns) q.0 p.0

lands : (items : List Item) (of : List Placed) (i : Listed) → list_all (is_pc of) (goals i) ≡ true
    → AllByRecursion (IsPc (map (numbered_placed items) of)) (targets (numbered items i))
lands items of instruction.Nop h = tt
lands items of (instruction.Constant c) h = tt
lands items of (instruction.Local a) h = tt
lands items of (instruction.Stack op) h = tt
lands items of (instruction.Number op) h = tt
lands items of (instruction.Branch t target) h = pcs items of (target ∷ []) h
lands items of (instruction.TableSwitch s) h = pcs items of (s.default ∷ s.targets)
    (last_first (is_pc of) s.targets s.default h)
lands items of (instruction.LookupSwitch s) h = pcs items of (s.default ∷ map (λ p. p.1) s.pairs)
    (last_first (is_pc of) (map (λ p. p.1) s.pairs) s.default h)
lands items of (instruction.Return kind) h = tt
lands items of (instruction.Static access m) h = tt
lands items of (instruction.Field access m) h = tt
lands items of (instruction.Array op) h = tt
lands items of (instruction.Class op name) h = tt
lands items of (instruction.Invoke how m) h = tt
lands items of instruction.Throw h = tt
lands items of (instruction.Monitor op) h = tt

all_land : (items : List Item) (of ps : List Placed) → AllByRecursion (IsReady items of) ps
    → AllByRecursion (λ x. AllByRecursion (IsPc (map (numbered_placed items) of)) (targets x.instruction))
    (map (numbered_placed items) ps)
all_land items of [] all = tt
all_land items of (p ∷ ps) all = (lands items of p.instruction all.0.lands, all_land items of ps all.1)

-- the instructions have bytes
pub code_is_code : (items : List Item) (ps : List Placed) → IsPool items → ((n : ℕ) → is_pc ps n ≡ true → n ≤ 65535)
    → stand_from 0 ps ≡ true → 1 ≤ end_from 0 ps → end_from 0 ps ≤ 65535 → AllByRecursion (IsReady items ps) ps
    → IsCode (code_bytes (map (numbered_placed items) ps)) (map (numbered_placed items) ps)
code_is_code items ps pool below stand some end all =
    let s = stands items ps 0 ps pool below stand end all in
    record {
      stand = s.0;
      some = omega (arith, s.1, some);
      few = omega (arith, s.1, end);
      land = all_land items ps ps all;
    }
