-- Lines and instructions agree together, and code goes as far as its lines.
use Rattle.std.proofs.Common.{◌≡◌, ℕ, ℤ, ◌+◌, ◌≤◌, true, false, ◌&&◌, nat_le, List, [], ◌∷◌, ◌++◌, map, refl, sym, ◌∙◌}
use Rattle.std.proofs.Common.{ap, inl, inr, Option, Some, None}
use Rattle.std.specs.List.{list_all}
use Rattle.std.specs.Option.{unwrap_or}
use Rattle.std.specs.Prelude.{if◌then◌else◌, is_none}
use Rattle.std.specs.Str.{bytes_eq}
use Rattle.std.proofs.Math.Path.{fun_ext}
use Rattle.std.proofs.lemmas.Bool.{leb-true}
use Rattle.std.proofs.lemmas.Slice.Eq.{bytes_eq-Decides}
use Rattle.model.specs.declared.listings.ExceptionRow.{ExceptionRow}
use Rattle.model.specs.declared.listings.Placed.{Placed}
use Rattle.model.specs.declared.trees.CatchRow.{CatchRow}
use Rattle.model.specs.declared.trees.TextLine.{TextLine}
use Rattle.model.specs.declared.trees.TextLine.TheVariants.{Label, Instruction}
use Rattle.model.specs.CodeListings.{CodeListing}
use Rattle.model.specs.Sizes.{size_at}
use Rattle.model.specs.Texts.Assembling.{switch_agrees, size_is_right, end_from, reaches}
use Rattle.model.specs.Texts.Bodies.{Body}
use Rattle.model.specs.Texts.Labels.{pc_following, pc_of}
use Rattle.model.specs.Texts.ListingOfTree.{placed_from, row_with, code_listing}
use Rattle.model.specs.Texts.Tables.{named}
use Rattle.model.specs.Texts.Widths.{widened, widened_line}
use Rattle.assembler.specs.Checks.{pc_in, line_agrees, code_is_right}
use Rattle.assembler.proofs.Bools.{bool_tells, and_tells}

pub agree_together : (narrow : List ℤ) (f : List ℕ → ℕ) (pc : ℕ) (lines : List TextLine)
    → list_all (λ p. switch_agrees p.instruction) (placed_from f pc (map (widened_line narrow) lines))
    ≡ list_all (line_agrees narrow f) lines
agree_together narrow f pc [] = refl
agree_together narrow f pc (Label l ∷ lines) = agree_together narrow f pc lines
agree_together narrow f pc (Instruction i ∷ lines) = ap (λ b. line_agrees narrow f (Instruction i) && b)
    (agree_together narrow f (pc + size_at pc (widened narrow i)) lines)

pub ends_after : (f : List ℕ → ℕ) (pc : ℕ) (lines : List TextLine) → end_from pc (placed_from f pc lines)
    ≡ pc_following pc lines
ends_after f pc [] = refl
ends_after f pc (Label l ∷ lines) = ends_after f pc lines
ends_after f pc (Instruction i ∷ lines) = ends_after f (pc + size_at pc i) lines

-- ---- a table of pcs

-- a label that was there keeps its pc
pub still_there : (pcs : List (List ℕ × ℕ)) (name other : List ℕ) (pc later : ℕ) (found : Option ℕ)
    → found ≡ named pcs name → is_none found ≡ false → unwrap_or (named pcs other) later
    ≡ unwrap_or (named pcs other) (if bytes_eq name other then pc else later)
still_there pcs name other pc later None e h = cc
still_there pcs name other pc later (Some n) e h =
    elim (bool_tells (bytes_eq name other)) [
      | inl t ↦ rw (t, ← (bytes_eq-Decides name other).0 t, ← e) refl
      | inr f ↦ rw f refl
    ]

same_both : (a b : List ℕ) → bytes_eq a b ≡ bytes_eq b a
same_both a b =
    elim (bool_tells (bytes_eq a b)) [
      | inl t ↦ t ∙ sym ((bytes_eq-Decides b a).1 (sym ((bytes_eq-Decides a b).0 t)))
      | inr f ↦ elim (bool_tells (bytes_eq b a)) [
        | inl t ↦ let e = (bytes_eq-Decides a b).1 (sym ((bytes_eq-Decides b a).0 t)) in cc
        | inr g ↦ f ∙ sym g
      ]
    ]

-- a label that wasn't there has its pc after the others
pub now_there : (pcs : List (List ℕ × ℕ)) (name other : List ℕ) (pc later : ℕ)
    → unwrap_or (named (pcs ++ (name, pc) ∷ []) other) later ≡ unwrap_or (named pcs other) (if bytes_eq name other
    then pc else later)
now_there [] name other pc later = elim (bool_tells (bytes_eq name other)) [
  | inl t ↦ rw (t, sym (same_both name other) ∙ t) refl
  | inr f ↦ rw (f, sym (same_both name other) ∙ f) refl
]
now_there (row ∷ pcs) name other pc later = elim (bool_tells (bytes_eq other row.0)) [
  | inl t ↦ rw t refl
  | inr f ↦ rw f (now_there pcs name other pc later)
]

-- ---- code

module _ (narrow : List ℤ) (body : Body) where
  abbrev lines : List TextLine
  lines = map (widened_line narrow) body.lines

  abbrev pc : List ℕ → ℕ
  pc = pc_of 0 lines

  -- what it means that a body's code is right
  pub record IsRight : Type 0 where
    pub agree : list_all (line_agrees narrow pc) body.lines ≡ true
    pub size : size_is_right (pc_following 0 lines) ≡ true
    pub reach : list_all (λ p. reaches p.pc p.instruction) (placed_from pc 0 lines) ≡ true

  pub right_parts : code_is_right (code_listing narrow body) ≡ true → IsRight
  right_parts h =
      let outer = and_tells (list_all (λ p. switch_agrees p.instruction) (placed_from pc 0 lines)
      && size_is_right (end_from 0 (placed_from pc 0 lines))) (list_all (λ p. reaches p.pc p.instruction)
      (placed_from pc 0 lines)) h in
      let inner = and_tells (list_all (λ p. switch_agrees p.instruction) (placed_from pc 0 lines))
      (size_is_right (end_from 0 (placed_from pc 0 lines))) outer.0 in
      record {
        agree = sym (agree_together narrow pc 0 body.lines) ∙ inner.0;
        size = rw (ends_after pc 0 lines) at inner.1;
        reach = outer.1;
      }

  pub parts_right : IsRight → code_is_right (code_listing narrow body) ≡ true
  parts_right r = rw (agree_together narrow pc 0 body.lines ∙ r.agree, ends_after pc 0 lines, r.size, r.reach) refl

  -- code of 65,535 bytes at most
  pub is_short : size_is_right (pc_following 0 lines) ≡ true → pc_following 0 lines ≤ 65535
  is_short h = leb-true (pc_following 0 lines) 65535
      ((and_tells (nat_le 1 (pc_following 0 lines)) (nat_le (pc_following 0 lines) 65535) h).1)

-- code by a table of pcs is code by the lines
pub settled_is : (narrow : List ℤ) (pcs : List (List ℕ × ℕ)) (max_stack max_locals : ℕ) (rows : List ExceptionRow)
    (instructions : List Placed) (catches : List CatchRow) (lines : List TextLine)
    → ((name : List ℕ) → pc_in pcs name ≡ pc_of 0 (map (widened_line narrow) lines) name)
    → rows ≡ map (row_with (pc_in pcs)) catches → instructions
    ≡ placed_from (pc_in pcs) 0 (map (widened_line narrow) lines)
    → let code : CodeListing = record {
      max_stack = max_stack;
      max_locals = max_locals;
      rows = rows;
      instructions =
          instructions;
    } in
    let body : Body = record { max_stack = max_stack; max_locals = max_locals; rows = catches; lines = lines } in
    code ≡ code_listing narrow body
settled_is narrow pcs max_stack max_locals rows instructions catches lines same e f = rw (e, f, fun_ext same) refl
