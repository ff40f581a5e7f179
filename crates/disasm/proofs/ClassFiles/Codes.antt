-- The code of a class file is spelled, but for what no text can say, and it assembles.
use Rattle.std.proofs.Common.{◌≡◌, ℕ, ◌+◌, true, ◌&&◌, ◌==◌, List, [], ◌∷◌, ◌++◌, length, map, refl, sym, ap, subst}
use Rattle.std.proofs.Common.{◌∙◌, inl, inr, arith, eq-eqb}
use Rattle.std.specs.Prelude.{nat_le}
use Rattle.std.specs.List.{AllByRecursion, list_all}
use Rattle.std.proofs.lemmas.Bool.{and_parts, and_from, or_left, or_right, le-leb}
use Rattle.std.proofs.lemmas.List.{length-append, length-map}
use Rattle.model.specs.declared.bytecode.Located.{Located}
use Rattle.model.specs.declared.class_files.Entry.{Entry}
use Rattle.model.specs.declared.instructions.Instruction.TheVariants as instruction
use Rattle.model.specs.declared.listings.Placed.{Placed}
use Rattle.model.specs.Bytecode as bytecode
use Rattle.model.specs.Bytecode.{spelling, StandFrom, IsPc, IsCode}
use Rattle.model.specs.Bytecode.Opcodes.{Instr}
use Rattle.model.specs.Bytecode.Ranges.{Fits}
use Rattle.model.specs.ClassFiles.Codes.{CodePart, is_sound, SpellsCode}
use Rattle.model.specs.ClassFiles.Entries.{EntryFits}
use Rattle.model.specs.ClassFiles.Listing.{listed, placed, listed_row, listed_code}
use Rattle.model.specs.ClassFiles.References.{AreSound}
use Rattle.model.specs.Sizes.{size_at}
use Rattle.model.specs.Texts.Assembling.{end_from, switch_agrees, size_is_right, reaches, is_countable, code_assembles}
use Rattle.model.specs.Texts.Disassembling.{targets}
use Rattle.model.specs.Texts.Spelled.{is_u2, stand_from, is_pc, operands_are_spelled, instruction_is_spelled}
use Rattle.model.specs.Texts.Spelled.{row_is_spelled, code_is_spelled}
use Rattle.model.proofs.SizeLaws.{listed_size}
use Rattle.disasm.specs.Sayable.{operand_is_sayable, code_is_sayable}
use Rattle.disasm.proofs.Back.Lists.{all_joined}
use Rattle.disasm.proofs.ClassFiles.Operands.{two_bytes, operands_spelled, agrees, near}

-- ---- instructions stand one after the other

module _ (pool : List Entry) where
  stands : (pc : ℕ) (items : List Located) (bytes : List ℕ) → StandFrom pc items bytes
      → stand_from pc (map (placed pool) items) ≡ true
  stands pc [] bytes s = refl
  stands pc (x ∷ items) bytes s =
      let begins = s.1 in
      let next : x.next ≡ pc + size_at pc (listed pool x.instruction) = begins.next
      ∙ ap (λ (n : ℕ). pc + n) (sym (listed_size pool pc x.instruction)) in
      and_from (x.pc == pc && x.next == pc + size_at pc (listed pool x.instruction))
      (stand_from x.next (map (placed pool) items))
      (and_from (x.pc == pc) (x.next == pc + size_at pc (listed pool x.instruction)) (eq-eqb x.pc pc begins.at)
      (eq-eqb x.next (pc + size_at pc (listed pool x.instruction)) next))
      (stands x.next items s.0 s.2)

  ends : (pc : ℕ) (items : List Located) (bytes : List ℕ) → StandFrom pc items bytes
      → end_from pc (map (placed pool) items) ≡ pc + length bytes
  ends pc [] bytes s = omega (arith, ap (λ (b : List ℕ). length b) s)
  ends pc (x ∷ items) bytes s =
      let begins = s.1 in
      omega (
        arith,
        ends x.next items s.0 s.2,
        begins.next,
        ap (λ (b : List ℕ). length b) begins.bytes_are,
        length-append (spelling pc x.instruction) s.0,
      )

  pub each_fits : (pc : ℕ) (items : List Located) (bytes : List ℕ) → StandFrom pc items bytes
      → AllByRecursion (λ x. Fits x.pc x.instruction) items
  each_fits pc [] bytes s = tt
  each_fits pc (x ∷ items) bytes s = (
    subst (λ (n : ℕ). Fits n x.instruction) (sym s.1.at) s.1.fits,
    each_fits x.next items s.0 s.2,
  )

  -- ---- and name one another

  pc_is : (items : List Located) (n : ℕ) → IsPc items n → is_pc (map (placed pool) items) n ≡ true
  pc_is [] n h = absurd h
  pc_is (x ∷ items) n (inl here) = or_left (x.pc == n) (is_pc (map (placed pool) items) n) (eq-eqb x.pc n here)
  pc_is (x ∷ items) n (inr there) = or_right (x.pc == n) (is_pc (map (placed pool) items) n) (pc_is items n there)

  module _ (items : List Located) where
    abbrev ps : List Placed
    ps = map (placed pool) items

    pcs_are : (ts : List ℕ) → AllByRecursion (IsPc items) ts → list_all (is_pc ps) ts ≡ true
    pcs_are [] all = refl
    pcs_are (t ∷ ts) all = and_from (is_pc ps t) (list_all (is_pc ps) ts) (pc_is items t all.0) (pcs_are ts all.1)

    last_too : (ts : List ℕ) (last : ℕ) → AllByRecursion (IsPc items) (last ∷ ts)
        → list_all (is_pc ps) (ts ++ last ∷ []) ≡ true
    last_too ts last all = all_joined (is_pc ps) ts (last ∷ []) (pcs_are ts all.1) (pcs_are (last ∷ []) (all.0, tt))

    targets_are : (i : Instr) → AllByRecursion (IsPc items) (bytecode.targets i)
        → list_all (is_pc ps) (targets (listed pool i)) ≡ true
    targets_are instruction.Nop all = refl
    targets_are (instruction.Constant c) all = refl
    targets_are (instruction.Local a) all = refl
    targets_are (instruction.Stack op) all = refl
    targets_are (instruction.Number op) all = refl
    targets_are (instruction.Branch t target) all = pcs_are (target ∷ []) all
    targets_are (instruction.TableSwitch s) all = last_too s.targets s.default all
    targets_are (instruction.LookupSwitch s) all = last_too (map (λ p. p.1) s.pairs) s.default all
    targets_are (instruction.Return k) all = refl
    targets_are (instruction.Static a n) all = refl
    targets_are (instruction.Field a n) all = refl
    targets_are (instruction.Array op) all = refl
    targets_are (instruction.Class op n) all = refl
    targets_are (instruction.Invoke how n) all = refl
    targets_are instruction.Throw all = refl
    targets_are (instruction.Monitor op) all = refl

    instructions_spelled : (rest : List Located) → AllByRecursion EntryFits pool → AreSound pool
        → AllByRecursion (λ x. Fits x.pc x.instruction) rest → AllByRecursion (λ x. is_sound pool x.instruction ≡ true)
        rest
        → AllByRecursion (λ x. AllByRecursion (IsPc items) (bytecode.targets x.instruction)) rest
        → list_all (λ p. operand_is_sayable p.instruction) (map (placed pool) rest) ≡ true
        → list_all (instruction_is_spelled ps) (map (placed pool) rest) ≡ true
    instructions_spelled [] entries sound fits kinds land say = refl
    instructions_spelled (x ∷ rest) entries sound fits kinds land say =
        let says = and_parts (operand_is_sayable (listed pool x.instruction))
        (list_all (λ p. operand_is_sayable p.instruction) (map (placed pool) rest)) say in
        and_from (instruction_is_spelled ps (placed pool x))
        (list_all (instruction_is_spelled ps) (map (placed pool) rest))
        (and_from (operands_are_spelled (listed pool x.instruction))
        (list_all (is_pc ps) (targets (listed pool x.instruction)))
        (operands_spelled pool x.pc x.instruction entries sound fits.0 kinds.0 says.0)
        (targets_are x.instruction land.0))
        (instructions_spelled rest entries sound fits.1 kinds.1 land.1 says.1)

  all_agree : (items : List Located) → AllByRecursion (λ x. Fits x.pc x.instruction) items
      → list_all (λ p. switch_agrees p.instruction) (map (placed pool) items) ≡ true
  all_agree [] fits = refl
  all_agree (x ∷ items) fits = and_from (switch_agrees (listed pool x.instruction))
      (list_all (λ p. switch_agrees p.instruction) (map (placed pool) items)) (agrees pool x.pc x.instruction fits.0)
      (all_agree items fits.1)

  all_near : (items : List Located) → AllByRecursion (λ x. Fits x.pc x.instruction) items
      → list_all (λ p. reaches p.pc p.instruction) (map (placed pool) items) ≡ true
  all_near [] fits = refl
  all_near (x ∷ items) fits = and_from (reaches x.pc (listed pool x.instruction))
      (list_all (λ p. reaches p.pc p.instruction) (map (placed pool) items)) (near pool x.pc x.instruction fits.0)
      (all_near items fits.1)

  -- ---- code

  pub code_spelled : (info : List ℕ) (c : CodePart) → AllByRecursion EntryFits pool → AreSound pool → SpellsCode pool
      info c → code_is_sayable (listed_code pool c) ≡ true → code_is_spelled (listed_code pool c) ≡ true
  code_spelled info c entries sound s say =
      let ps = map (placed pool) c.instructions in
      let rows = map (listed_row pool) c.rows in
      let says = and_parts (list_all (λ p. operand_is_sayable p.instruction) ps) (list_all (row_is_spelled ps) rows) say
      in
      let one = is_u2 c.max_stack && is_u2 c.max_locals in
      let two = one && stand_from 0 ps in
      let three = two && list_all (instruction_is_spelled ps) ps in
      and_from three (list_all (row_is_spelled ps) rows)
      (and_from two (list_all (instruction_is_spelled ps) ps)
      (and_from one (stand_from 0 ps) (and_from (is_u2 c.max_stack) (is_u2 c.max_locals)
      (two_bytes c.max_stack s.stack_fits) (two_bytes c.max_locals s.locals_fit))
      (stands 0 c.instructions s.code s.is_code.stand))
      (instructions_spelled c.instructions c.instructions entries sound
      (each_fits 0 c.instructions s.code s.is_code.stand) s.sound s.is_code.land says.0))
      says.1

  pub code_made : (info : List ℕ) (c : CodePart) → SpellsCode pool info c → code_assembles (listed_code pool c) ≡ true
  code_made info c s =
      let ps = map (placed pool) c.instructions in
      let fits = each_fits 0 c.instructions s.code s.is_code.stand in
      let size : end_from 0 ps ≡ length s.code = ends 0 c.instructions s.code s.is_code.stand ∙ omega arith in
      let right : size_is_right (end_from 0 ps) ≡ true = ap size_is_right size
      ∙ and_from (nat_le 1 (length s.code)) (nat_le (length s.code) 65535)
      (le-leb 1 (length s.code) s.is_code.some) (le-leb (length s.code) 65535 s.is_code.few) in
      let switches = list_all (λ p. switch_agrees p.instruction) ps in
      let ways = list_all (λ p. reaches p.pc p.instruction) ps in
      let rows : length (map (listed_row pool) c.rows) ≡ length c.rows = length-map c.rows (listed_row pool) in
      and_from (switches && size_is_right (end_from 0 ps) && ways)
      (is_countable (length (map (listed_row pool) c.rows)))
      (and_from (switches && size_is_right (end_from 0 ps)) ways (and_from switches (size_is_right (end_from 0 ps))
      (all_agree c.instructions fits) right) (all_near c.instructions fits))
      (ap is_countable rows ∙ two_bytes (length c.rows) s.rows_few)
