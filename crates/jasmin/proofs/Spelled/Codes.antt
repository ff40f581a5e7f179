-- The code of a body is spelled, whatever numbers stay with `ldc`.
use Rattle.std.proofs.Common.{◌≡◌, ℕ, ℤ, ◌+◌, true, ◌&&◌, List, [], ◌∷◌, ◌++◌, map, refl, ◌∙◌}
use Rattle.std.specs.List.{AllByRecursion, list_all}
use Rattle.std.proofs.lemmas.List.Folds.{list_all-append}
use Rattle.model.specs.declared.instructions.Instruction.TheVariants.{Nop, Constant, Local, Stack, Number, Branch}
use Rattle.model.specs.declared.instructions.Instruction.TheVariants.{TableSwitch, LookupSwitch, Return, Static, Field}
use Rattle.model.specs.declared.instructions.Instruction.TheVariants.{Array, Class, Invoke, Throw, Monitor}
use Rattle.model.specs.declared.listings.Placed.{Placed}
use Rattle.model.specs.declared.trees.CatchRow.{CatchRow}
use Rattle.model.specs.declared.trees.TextLine.{TextLine}
use Rattle.model.specs.declared.trees.TextLine.TheVariants as line
use Rattle.model.specs.Sizes.{size_at}
use Rattle.model.specs.Texts.Bodies.{Body}
use Rattle.model.specs.Texts.Disassembling.{targets}
use Rattle.model.specs.Texts.Instructions.{Written}
use Rattle.model.specs.Texts.Labels.{pc_of, with_targets}
use Rattle.model.specs.Texts.ListingOfTree.{placed_from, row_with, code_with, code_listing}
use Rattle.model.specs.Texts.Spelled.{is_u2, is_pc, is_bound, stand_from, operands_are_spelled, instruction_is_spelled}
use Rattle.model.specs.Texts.Spelled.{row_is_spelled, catch_is_spelled, code_is_spelled}
use Rattle.model.specs.Texts.Uses.{labels_in, count_in, targets_of, is_given, leads_on, line_agrees, row_agrees}
use Rattle.model.specs.Texts.Uses.{are_different, labels_agree}
use Rattle.model.specs.Texts.Widths.{widened_line}
use Rattle.jasmin.proofs.Spelled.Bodies.{LineFits, RowFits, PartsFit, BodyFits}
use Rattle.jasmin.proofs.Spelled.Labels.{placed_stand, at_pc, at_bound}
use Rattle.jasmin.proofs.Spelled.Partial.{both_true, and_true}
use Rattle.jasmin.proofs.Spelled.Widths.{lines_kept, agree_kept}

-- labels that lead on become pcs, and those that are given become bounds
module _ (ps : List Placed) (f : List ℕ → ℕ) (labels : List (List ℕ × ℕ)) (count : ℕ)
    (step : (name : List ℕ) → leads_on labels count name ≡ true → is_pc ps (f name) ≡ true)
    (bound : (name : List ℕ) → is_given labels name ≡ true → is_bound ps (f name) ≡ true) where
  names_land : (names : List (List ℕ)) → list_all (leads_on labels count) names ≡ true
      → list_all (is_pc ps) (map f names) ≡ true
  names_land [] h = refl
  names_land (name ∷ names) h =
      let parts = both_true (leads_on labels count name) (list_all (leads_on labels count) names) h in
      and_true (is_pc ps (f name)) (list_all (is_pc ps) (map f names)) (step name parts.0) (names_land names parts.1)

  pairs_land : (pairs : List (ℤ × List ℕ)) → list_all (leads_on labels count) (map (λ p. p.1) pairs) ≡ true
      → list_all (is_pc ps) (map (λ (p : ℤ × ℕ). p.1) (map (λ (p : ℤ × List ℕ). (p.0, f p.1)) pairs)) ≡ true
  pairs_land [] h = refl
  pairs_land (pair ∷ pairs) h =
      let parts = both_true (leads_on labels count pair.1) (list_all (leads_on labels count) (map (λ p. p.1) pairs)) h
      in
      and_true (is_pc ps (f pair.1))
      (list_all (is_pc ps) (map (λ (p : ℤ × ℕ). p.1) (map (λ (p : ℤ × List ℕ). (p.0, f p.1)) pairs)))
      (step pair.1 parts.0) (pairs_land pairs parts.1)

  and_last : (pcs : List ℕ) (pc : ℕ) → list_all (is_pc ps) pcs ≡ true → is_pc ps pc ≡ true
      → list_all (is_pc ps) (pcs ++ pc ∷ []) ≡ true
  and_last pcs pc h k = list_all-append (is_pc ps) pcs (pc ∷ []) ∙ and_true (list_all (is_pc ps) pcs) (is_pc ps pc
      && true) h (and_true (is_pc ps pc) true k refl)

  targets_land : (i : Written) → list_all (leads_on labels count) (targets_of i) ≡ true
      → list_all (is_pc ps) (targets (with_targets f i)) ≡ true
  targets_land Nop h = refl
  targets_land (Constant c) h = refl
  targets_land (Local l) h = refl
  targets_land (Stack s) h = refl
  targets_land (Number n) h = refl
  targets_land (Branch t target) h = names_land (target ∷ []) h
  targets_land (TableSwitch t) h =
      let parts = both_true (leads_on labels count t.default) (list_all (leads_on labels count) t.targets) h in
      and_last (map f t.targets) (f t.default) (names_land t.targets parts.1) (step t.default parts.0)
  targets_land (LookupSwitch l) h =
      let parts = both_true (leads_on labels count l.default)
      (list_all (leads_on labels count) (map (λ p. p.1) l.pairs)) h in
      and_last (map (λ (p : ℤ × ℕ). p.1) (map (λ (p : ℤ × List ℕ). (p.0, f p.1)) l.pairs)) (f l.default)
      (pairs_land l.pairs parts.1) (step l.default parts.0)
  targets_land (Return kind) h = refl
  targets_land (Static a m) h = refl
  targets_land (Field a m) h = refl
  targets_land (Array a) h = refl
  targets_land (Class o c) h = refl
  targets_land (Invoke i m) h = refl
  targets_land Throw h = refl
  targets_land (Monitor m) h = refl

  placed_fit : (pc : ℕ) (lines : List TextLine) → AllByRecursion LineFits lines
      → list_all (line_agrees labels count) lines ≡ true
      → list_all (instruction_is_spelled ps) (placed_from f pc lines) ≡ true
  placed_fit pc [] all h = refl
  placed_fit pc (line.Label l ∷ lines) all h = placed_fit pc lines all.1 h
  placed_fit pc (line.Instruction i ∷ lines) all h =
      let parts = both_true (list_all (leads_on labels count) (targets_of i))
      (list_all (line_agrees labels count) lines) h in
      and_true (operands_are_spelled (with_targets f i) && list_all (is_pc ps) (targets (with_targets f i)))
      (list_all (instruction_is_spelled ps) (placed_from f (pc + size_at pc i) lines))
      (and_true (operands_are_spelled (with_targets f i)) (list_all (is_pc ps) (targets (with_targets f i))) (all.0 f)
      (targets_land i parts.0))
      (placed_fit (pc + size_at pc i) lines all.1 parts.1)

  row_fits : (row : CatchRow) → RowFits row → row_agrees labels count row ≡ true → row_is_spelled ps (row_with f row)
      ≡ true
  row_fits row h agree =
      let outer = both_true (is_given labels row.start && is_given labels row.end) (leads_on labels count row.handler)
      agree in
      let inner = both_true (is_given labels row.start) (is_given labels row.end) outer.0 in
      and_true (is_bound ps (f row.start) && is_bound ps (f row.end) && is_pc ps (f row.handler))
      (catch_is_spelled row.class)
      (and_true (is_bound ps (f row.start) && is_bound ps (f row.end)) (is_pc ps (f row.handler))
      (and_true (is_bound ps (f row.start)) (is_bound ps (f row.end)) (bound row.start inner.0) (bound row.end inner.1))
      (step row.handler outer.1))
      h

  rows_fit : (rows : List CatchRow) → AllByRecursion RowFits rows → list_all (row_agrees labels count) rows ≡ true
      → list_all (row_is_spelled ps) (map (row_with f) rows) ≡ true
  rows_fit [] all h = refl
  rows_fit (row ∷ rows) all h =
      let parts = both_true (row_agrees labels count row) (list_all (row_agrees labels count) rows) h in
      and_true (row_is_spelled ps (row_with f row)) (list_all (row_is_spelled ps) (map (row_with f) rows))
      (row_fits row all.0 parts.0) (rows_fit rows all.1 parts.1)

code_fits : (body : Body) (lines : List TextLine) → PartsFit body → AllByRecursion LineFits lines
    → labels_agree body.rows lines ≡ true → code_is_spelled (code_with body lines) ≡ true
unfolding labels_agree
code_fits body lines parts all agree =
    let f = pc_of 0 lines in
    let ps = placed_from f 0 lines in
    let labels = labels_in lines in
    let count = count_in lines in
    let step : (name : List ℕ) → leads_on labels count name ≡ true → is_pc ps (f name)
    ≡ true = λ name h. at_pc f 0 0 lines name h in
    let bound : (name : List ℕ) → is_given labels name ≡ true → is_bound ps (f name)
    ≡ true = λ name h. at_bound f 0 0 lines name h in
    let outer = both_true (are_different labels && list_all (line_agrees labels count) lines)
    (list_all (row_agrees labels count) body.rows) agree in
    let inner = both_true (are_different labels) (list_all (line_agrees labels count) lines) outer.0 in
    and_true
    (is_u2 body.max_stack && is_u2 body.max_locals && stand_from 0 ps && list_all (instruction_is_spelled ps) ps)
    (list_all (row_is_spelled ps) (map (row_with f) body.rows))
    (and_true (is_u2 body.max_stack && is_u2 body.max_locals && stand_from 0 ps)
    (list_all (instruction_is_spelled ps) ps)
    (and_true (is_u2 body.max_stack && is_u2 body.max_locals) (stand_from 0 ps)
    (and_true (is_u2 body.max_stack) (is_u2 body.max_locals) parts.stack parts.locals) (placed_stand f 0 lines))
    (placed_fit ps f labels count step bound 0 lines all inner.1))
    (rows_fit ps f labels count step bound body.rows parts.rows outer.1)

pub body_is_code : (narrow : List ℤ) (body : Body) → BodyFits body → code_is_spelled (code_listing narrow body) ≡ true
body_is_code narrow body h =
    code_fits body (map (widened_line narrow) body.lines) h.parts (lines_kept narrow body.lines h.parts.lines)
    (agree_kept narrow body.rows body.lines ∙ h.agree)
