-- Code that is given stands where the listing says.
use Rattle.std.proofs.Common.{◌≡◌, ℕ, ◌+◌, true, ◌==◌, ◌&&◌, List, [], ◌∷◌, ◌++◌, length, map, drop, get_or, refl, sym}
use Rattle.std.proofs.Common.{◌∙◌, ap, subst, codes, Some}
use Rattle.std.proofs.lemmas.Bool.{eqb-true}
use Rattle.model.specs.Bytecode.{spelling, IsCode, StandFrom, instructions_of}
use Rattle.model.specs.Bytecode.Opcodes.{Instr}
use Rattle.std.specs.List.{flat_map}
use Rattle.model.specs.ClassFiles.Codes.{CodePart, CodeRow}
use Rattle.model.specs.ClassFiles.Items.{Item, with_items, placed_items, row_items, code_items}
use Rattle.model.specs.ClassFiles.Items.Item.{text_item}
use Rattle.model.specs.CodeListings.{CodeListing}
use Rattle.model.specs.Sizes.{size_at}
use Rattle.model.specs.Table.Next.{Listed}
use Rattle.model.specs.Texts.Spelled.{stand_from}
use Rattle.model.specs.declared.bytecode.Located.{Located}
use Rattle.model.specs.declared.instructions.ArrayOperation.TheVariants as array
use Rattle.model.specs.declared.instructions.Constant.TheVariants as constant
use Rattle.model.specs.declared.instructions.Instruction.TheVariants as instruction
use Rattle.model.specs.declared.instructions.Width.TheVariants.{Narrow, Wide}
use Rattle.model.specs.declared.listings.ExceptionRow.{ExceptionRow}
use Rattle.model.specs.declared.listings.Placed.{Placed}
use Rattle.model.proofs.SizeLaws.{spelled}
use Rattle.assembler.specs.Numbering.{number_of, numbered, numbered_placed, numbered_row}
use Rattle.assembler.specs.Assembled.{Stays, assembled_code}
use Rattle.assembler.proofs.StayingLaws.{stays_then}
use Rattle.assembler.proofs.Bools.{and_tells}

-- a pool number in place of a name changes no size
pub numbered_size : (items : List Item) (pc : ℕ) (i : Listed) → size_at pc (numbered items i) ≡ size_at pc i
numbered_size items pc instruction.Nop = refl
numbered_size items pc (instruction.Constant constant.Null) = refl
numbered_size items pc (instruction.Constant (constant.SmallInt n)) = refl
numbered_size items pc (instruction.Constant (constant.SmallLong n)) = refl
numbered_size items pc (instruction.Constant (constant.Byte z)) = refl
numbered_size items pc (instruction.Constant (constant.Short z)) = refl
numbered_size items pc (instruction.Constant (constant.Int Narrow z)) = refl
numbered_size items pc (instruction.Constant (constant.Int Wide z)) = refl
numbered_size items pc (instruction.Constant (constant.Long z)) = refl
numbered_size items pc (instruction.Local a) = refl
numbered_size items pc (instruction.Stack op) = refl
numbered_size items pc (instruction.Number op) = refl
numbered_size items pc (instruction.Branch t target) = refl
numbered_size items pc (instruction.TableSwitch s) = refl
numbered_size items pc (instruction.LookupSwitch s) = refl
numbered_size items pc (instruction.Return kind) = refl
numbered_size items pc (instruction.Static a m) = refl
numbered_size items pc (instruction.Field a m) = refl
numbered_size items pc (instruction.Array (array.New type)) = refl
numbered_size items pc (instruction.Array (array.NewOf name)) = refl
numbered_size items pc (instruction.Array array.Length) = refl
numbered_size items pc (instruction.Array (array.Load kind)) = refl
numbered_size items pc (instruction.Array (array.Store kind)) = refl
numbered_size items pc (instruction.Class op name) = refl
numbered_size items pc (instruction.Invoke how m) = refl
numbered_size items pc instruction.Throw = refl
numbered_size items pc (instruction.Monitor op) = refl

-- an instruction at a pc, and the pc after it
abbrev located_at : ℕ → ℕ → Instr → Located
located_at pc next i = record { pc = pc; next = next; instruction = i }

-- the instructions of code, placed as the listing places them
pub code_is : (items : List Item) (pc : ℕ) (code : List Located) (bytes : List ℕ) (ps : List Placed)
    → StandFrom pc code bytes → stand_from pc ps ≡ true → instructions_of code
    ≡ map (λ p. numbered items p.instruction) ps → code ≡ map (numbered_placed items) ps
code_is items pc [] bytes [] stand at same = refl
code_is items pc [] bytes (p ∷ ps) stand at same = cc
code_is items pc (x ∷ xs) bytes [] stand at same = cc
code_is items pc (x ∷ xs) bytes (p ∷ ps) stand at same =
    let begins = stand.1 in
    let outer = and_tells (p.pc == pc && p.next == pc + size_at pc p.instruction) (stand_from p.next ps) at in
    let inner = and_tells (p.pc == pc) (p.next == pc + size_at pc p.instruction) outer.0 in
    let here : p.pc ≡ pc = eqb-true p.pc pc inner.0 in
    let following : p.next ≡ pc + size_at pc p.instruction = eqb-true p.next (pc + size_at pc p.instruction) inner.1 in
    let first = ap (λ is. get_or is 0 x.instruction) same in
    let size : length (spelling pc x.instruction) ≡ size_at pc p.instruction = spelled pc x.instruction
    ∙ ap (size_at pc) first ∙ numbered_size items pc p.instruction in
    let next : x.next ≡ p.next = begins.next ∙ ap (λ n. pc + n) size ∙ sym following in
    ap (λ q. located_at q x.next x.instruction ∷ xs) (begins.at ∙ sym here)
    ∙ ap (λ q. located_at p.pc q x.instruction ∷ xs) next
    ∙ ap (λ i. located_at p.pc p.next i ∷ xs) first
    ∙ ap (λ ys. numbered_placed items p ∷ ys)
    (code_is items p.next xs stand.0 ps (subst (λ q. StandFrom q xs stand.0) next stand.2) outer.1
    (ap (drop 1) same))

-- instructions without their pcs
pub without_pcs : (items : List Item) (ps : List Placed) → instructions_of (map (numbered_placed items) ps)
    ≡ map (λ p. numbered items p.instruction) ps
without_pcs items [] = refl
without_pcs items (p ∷ ps) = ap (λ is. numbered items p.instruction ∷ is) (without_pcs items ps)

-- ---- a Code attribute

module _ (old first middle new : List Item) (c : CodeListing) (ps : List Placed) (rs : List ExceptionRow) (name : ℕ)
    (is : List Instr) (rows : List CodeRow) (same_instructions : ps ≡ c.instructions) (same_rows : rs ≡ c.rows)
    (named : Stays old (text_item (codes "Code") ∷ []) first (λ items. number_of items (text_item (codes "Code"))) name)
    (instructed : Stays first (flat_map placed_items ps) middle (λ items. map (λ p. numbered items p.instruction)
    ps) is)
    (rowed : Stays middle (flat_map row_items rs) new (λ items. map (numbered_row items) rs) rows) where
  abbrev values : List Item → ℕ × (List Instr × List CodeRow)
  values items = (
    number_of items (text_item (codes "Code")),
    (
      map (λ p. numbered items p.instruction) c.instructions,
      map (numbered_row items) c.rows,
    ),
  )

  parts : Stays {A = ℕ × (List Instr × List CodeRow)} old (code_items (Some c)) new values (name, (is, rows))
  parts =
      let i : Stays first (flat_map placed_items c.instructions) middle
      (λ items. map (λ p. numbered items p.instruction) c.instructions) is = subst
      (λ qs. Stays first (flat_map placed_items qs) middle (λ items. map (λ p. numbered items p.instruction) qs)
      is) same_instructions instructed in
      let r : Stays middle (flat_map row_items c.rows) new (λ items. map (numbered_row items) c.rows) rows = subst
      (λ qs. Stays middle (flat_map row_items qs) new (λ items. map (numbered_row items) qs) rows) same_rows rowed
      in
      stays_then old first new (text_item (codes "Code") ∷ []) (flat_map placed_items c.instructions
      ++ flat_map row_items c.rows) (λ items. number_of items (text_item (codes "Code")))
      (λ items. (map (λ p. numbered items p.instruction) c.instructions, map (numbered_row items) c.rows)) name (
        is,
        rows,
      ) named
      (stays_then first middle new (flat_map placed_items c.instructions) (flat_map row_items c.rows)
      (λ items. map (λ p. numbered items p.instruction) c.instructions) (λ items. map (numbered_row items) c.rows)
      is rows i r)

  -- the attribute
  pub code_stays : (code : List Located) → stand_from 0 c.instructions ≡ true → instructions_of code ≡ is
      → (bytes : List ℕ) × IsCode bytes code
      → Stays {A = CodePart} old (code_items (Some c)) new (λ items. assembled_code items c)
      (record { name = name; max_stack = c.max_stack; max_locals = c.max_locals; instructions = code; rows = rows })
  code_stays code at same is_code later =
      let p = parts later in
      let items = with_items new later in
      let placed : code ≡ map (numbered_placed items) c.instructions = code_is items 0 code is_code.0 c.instructions
      is_code.1.stand at (same ∙ ap (λ x. x.1.0) p.1) in
      let attribute : ℕ → List Located → List CodeRow → CodePart = λ n xs ys. record {
        name = n;
        max_stack = c.max_stack;
        max_locals = c.max_locals;
        instructions = xs;
        rows = ys;
      } in (
        p.0,
        ap (λ n. attribute n code rows) (ap (λ x. x.0) p.1)
            ∙ ap (λ xs. attribute (number_of items (text_item (codes "Code"))) xs rows) placed
            ∙ ap (λ ys. attribute (number_of items (text_item (codes "Code")))
            (map (numbered_placed items) c.instructions) ys) (ap (λ x. x.1.1) p.1),
      )

  -- instructions that have bytes are those that are given their bytes
  pub has_bytes : (later : List Item)
      → instructions_of (map (numbered_placed (with_items old (code_items (Some c) ++ later))) c.instructions) ≡ is
  has_bytes later =
      let p = parts later in
      ap (λ items. instructions_of (map (numbered_placed items) c.instructions)) p.0
      ∙ without_pcs (with_items new later) c.instructions ∙ sym (ap (λ x. x.1.0) p.1)
