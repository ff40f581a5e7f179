-- Labels that pcs name are given once, each before the instruction at its pc.
use Rattle.std.proofs.Common.{◌≡◌, ℕ, ℤ, ◌+◌, ◌<◌, ◌≤◌, Bool, true, false, ◌==◌, List, [], ◌∷◌, ◌++◌, map, bytes_eq}
use Rattle.std.proofs.Common.{is_some, Option, Some, None, refl, sym, ap, ap₂, ◌∙◌, inl, inr, arith, le_refl}
use Rattle.std.proofs.Common.{append-nil, eqb-true, lt-ltb}
use Rattle.std.specs.List.{list_all}
use Rattle.std.proofs.lemmas.Bool.{and_parts, and_from, or_cases, cases_eq}
use Rattle.model.specs.declared.instructions.Instruction.TheVariants as instruction
use Rattle.model.specs.declared.listings.ExceptionRow.{ExceptionRow}
use Rattle.model.specs.declared.listings.Placed.{Placed}
use Rattle.model.specs.declared.trees.TextLine.{TextLine}
use Rattle.model.specs.declared.trees.TextLine.TheVariants.{Label, Instruction}
use Rattle.model.specs.Table.Next.{Listed}
use Rattle.model.specs.Texts.Assembling.{end_from}
use Rattle.model.specs.Texts.Disassembling.{label, is_named, targets}
use Rattle.model.specs.Texts.Labels.{with_targets}
use Rattle.model.specs.Texts.Spelled.{stand_from, is_pc}
use Rattle.model.specs.Texts.Tables.{named}
use Rattle.model.specs.Texts.Uses.{labels_from, count_from, are_different, is_before, leads_on, targets_of, line_agrees}
use Rattle.model.specs.Texts.Uses.{row_agrees}
use Rattle.disasm.specs.Back.{label_back, lines_back, row_back}
use Rattle.disasm.proofs.Back.Lists.{all_parts}
use Rattle.disasm.proofs.Back.Pcs.{label_same, label_other, size_some, first_of, rises, is_bound_from, other_bound}
use Rattle.disasm.proofs.Back.Pcs.{bound_inside, pc_inside}

-- ---- the labels of lines

skipped : (b : Bool) (k at n : ℕ) (lines : List TextLine) → bytes_eq (label n) (label at) ≡ false
    → named (labels_from k (label_back b at ++ lines)) (label n) ≡ named (labels_from k lines) (label n)
skipped true k at n lines other = rw other refl
skipped false k at n lines other = refl

met : (b : Bool) (k at n : ℕ) (lines : List TextLine) → b ≡ true → n ≡ at
    → named (labels_from k (label_back b at ++ lines)) (label n) ≡ Some k
met true k at n lines e s = rw (label_same n at s) refl
met false k at n lines e s = absurd cc

counted : (b : Bool) (k at : ℕ) (lines : List TextLine) → count_from k (label_back b at ++ lines) ≡ count_from k lines
counted true k at lines = refl
counted false k at lines = refl

count_rises : (k : ℕ) (lines : List TextLine) → k ≤ count_from k lines
count_rises k [] = le_refl k
count_rises k (Label l ∷ lines) = count_rises k lines
count_rises k (Instruction i ∷ lines) = let r = count_rises (k + 1) lines in omega (arith, r)

ended : (b : Bool) (k at n : ℕ) → bytes_eq (label n) (label at) ≡ false
    → named (labels_from k (label_back b at)) (label n) ≡ None
ended true k at n other = rw other refl
ended false k at n other = refl

-- a pc before the first has no label
absent : (pcs : List ℕ) (k pc : ℕ) (ps : List Placed) (n : ℕ) → stand_from pc ps ≡ true → end_from pc ps ≤ 65535
    → n < pc → named (labels_from k (lines_back pcs pc ps)) (label n) ≡ None
absent pcs k pc [] n s small before = ended (is_named pcs pc) k pc n (label_other n pc (omega arith) (omega arith)
    (λ e. absurd (omega (arith, e))))
absent pcs k pc (p ∷ ps) n s small before =
    let h = first_of pc p ps s in
    let risen = rises pc (p ∷ ps) s in
    let at = h.at in
    let next = h.next in
    skipped (is_named pcs p.pc) k p.pc n (Instruction (with_targets label p.instruction) ∷ lines_back pcs p.next ps)
    (label_other n p.pc (omega (arith, small, risen, before)) (omega (arith, small, risen, at))
    (λ e. absurd (omega (arith, e, at, before))))
    ∙ absent pcs (k + 1) p.next ps n h.others small (omega (arith, next, before))

apart : (b : Bool) (k at : ℕ) (lines : List TextLine) → named (labels_from k lines) (label at) ≡ None
    → are_different (labels_from k lines) ≡ true → are_different (labels_from k (label_back b at ++ lines)) ≡ true
apart true k at lines e d = rw (e, d) refl
apart false k at lines e d = d

pub labels_differ : (pcs : List ℕ) (k pc : ℕ) (ps : List Placed) → stand_from pc ps ≡ true → end_from pc ps ≤ 65535
    → are_different (labels_from k (lines_back pcs pc ps)) ≡ true
labels_differ pcs k pc [] s small = ap (λ lines. are_different (labels_from k lines))
    (sym (append-nil (label_back (is_named pcs pc) pc))) ∙ apart (is_named pcs pc) k pc [] refl refl
labels_differ pcs k pc (p ∷ ps) s small =
    let h = first_of pc p ps s in
    let at = h.at in
    let next = h.next in
    let some = size_some pc p.instruction in
    apart (is_named pcs p.pc) k p.pc (Instruction (with_targets label p.instruction) ∷ lines_back pcs p.next ps)
    (absent pcs (k + 1) p.next ps p.pc h.others small (omega (arith, at, next, some)))
    (labels_differ pcs (k + 1) p.next ps h.others small)

-- ---- labels that are used

before_some : (count k : ℕ) (o : Option ℕ) → o ≡ Some k → k < count → is_before count o ≡ true
before_some count k o e small = rw e (lt-ltb k count small)

pub label_leads : (pcs : List ℕ) (k pc : ℕ) (ps : List Placed) (n : ℕ) → stand_from pc ps ≡ true
    → end_from pc ps ≤ 65535 → is_named pcs n ≡ true → is_pc ps n ≡ true
    → is_before (count_from k (lines_back pcs pc ps)) (named (labels_from k (lines_back pcs pc ps)) (label n)) ≡ true
label_leads pcs k pc [] n s small asked at = absurd cc
label_leads pcs k pc (p ∷ ps) n s small asked at =
    let h = first_of pc p ps s in
    let rest = lines_back pcs p.next ps in
    let lines = Instruction (with_targets label p.instruction) ∷ rest in
    let inside = pc_inside pc (p ∷ ps) n s at in
    let risen = rises pc (p ∷ ps) s in
    let same_pc = h.at in
    let more = count_rises (k + 1) rest in
    let count = counted (is_named pcs p.pc) k p.pc lines in
    elim (cases_eq n p.pc) [
      | inl same ↦ before_some (count_from k (lines_back pcs pc (p ∷ ps))) k
          (named (labels_from k (lines_back pcs pc (p ∷ ps))) (label n))
          (met (is_named pcs p.pc) k p.pc n lines (ap (is_named pcs) (sym same) ∙ asked) same)
          (omega (arith, more, count))
      | inr other ↦
          let later : is_pc ps n ≡ true = elim (or_cases (p.pc == n) (is_pc ps n) at) [
            | inl same ↦ absurd (other (sym (eqb-true p.pc n same)))
            | inr two ↦ two
          ] in
          ap₂ is_before count (skipped (is_named pcs p.pc) k p.pc n lines
          (label_other n p.pc (omega (arith, small, inside.1)) (omega (arith, small, risen, same_pc)) other))
          ∙ label_leads pcs (k + 1) p.next ps n h.others small asked later
    ]

pub label_given : (pcs : List ℕ) (k pc : ℕ) (ps : List Placed) (n : ℕ) → stand_from pc ps ≡ true
    → end_from pc ps ≤ 65535 → is_named pcs n ≡ true → is_bound_from pc ps n ≡ true
    → is_some (named (labels_from k (lines_back pcs pc ps)) (label n)) ≡ true
label_given pcs k pc [] n s small asked at =
    let same : pc ≡ n = eqb-true pc n at in
    ap (λ lines. is_some (named (labels_from k lines) (label n))) (sym (append-nil (label_back (is_named pcs pc) pc)))
    ∙ ap is_some (met (is_named pcs pc) k pc n [] (ap (is_named pcs) same ∙ asked) (sym same))
label_given pcs k pc (p ∷ ps) n s small asked at =
    let h = first_of pc p ps s in
    let lines = Instruction (with_targets label p.instruction) ∷ lines_back pcs p.next ps in
    let inside = bound_inside pc (p ∷ ps) n s at in
    let risen = rises pc (p ∷ ps) s in
    let same_pc = h.at in
    elim (cases_eq n p.pc) [
      | inl same ↦ ap is_some (met (is_named pcs p.pc) k p.pc n lines (ap (is_named pcs) (sym same) ∙ asked) same)
      | inr other ↦ ap is_some (skipped (is_named pcs p.pc) k p.pc n lines
          (label_other n p.pc (omega (arith, small, inside)) (omega (arith, small, risen, same_pc)) other))
          ∙ label_given pcs (k + 1) p.next ps n h.others small asked (other_bound p ps n at (λ e. other (sym e)))
    ]

-- ---- lines

all_mapped : {A B : Type 0} (h : A → B) (a : A → Bool) (b : B → Bool) → ((x : A) → a x ≡ true → b (h x) ≡ true)
    → (xs : List A) → list_all a xs ≡ true → list_all b (map h xs) ≡ true
all_mapped h a b f [] e = refl
all_mapped h a b f (x ∷ xs) e =
    let parts = and_parts (a x) (list_all a xs) e in
    and_from (b (h x)) (list_all b (map h xs)) (f x parts.0) (all_mapped h a b f xs parts.1)

module _ (labels : List (List ℕ × ℕ)) (count : ℕ) (good : ℕ → Bool) (leads : (n : ℕ) → good n ≡ true
    → leads_on labels count (label n) ≡ true) where
  pair_leads : (pairs : List (ℤ × ℕ)) → list_all good (map (λ (p : ℤ × ℕ). p.1) pairs) ≡ true
      → list_all (leads_on labels count) (map (λ (p : ℤ × List ℕ). p.1) (map (λ (p : ℤ × ℕ). (p.0, label p.1)) pairs))
      ≡ true
  pair_leads [] e = refl
  pair_leads (p ∷ ps) e =
      let parts = and_parts (good p.1) (list_all good (map (λ (q : ℤ × ℕ). q.1) ps)) e in
      and_from (leads_on labels count (label p.1))
      (list_all (leads_on labels count) (map (λ (q : ℤ × List ℕ). q.1) (map (λ (q : ℤ × ℕ). (q.0, label q.1)) ps)))
      (leads p.1 parts.0) (pair_leads ps parts.1)

  instruction_agrees : (i : Listed) → list_all good (targets i) ≡ true
      → list_all (leads_on labels count) (targets_of (with_targets label i)) ≡ true
  instruction_agrees instruction.Nop e = refl
  instruction_agrees (instruction.Constant c) e = refl
  instruction_agrees (instruction.Local a) e = refl
  instruction_agrees (instruction.Stack o) e = refl
  instruction_agrees (instruction.Number o) e = refl
  instruction_agrees (instruction.Branch t n) e = and_from (leads_on labels count (label n)) true
      (leads n (and_parts (good n) true e).0) refl
  instruction_agrees (instruction.TableSwitch t) e =
      let parts = all_parts good t.targets (t.default ∷ []) e in
      and_from (leads_on labels count (label t.default)) (list_all (leads_on labels count) (map label t.targets))
      (leads t.default (and_parts (good t.default) true parts.1).0)
      (all_mapped label good (leads_on labels count) leads t.targets parts.0)
  instruction_agrees (instruction.LookupSwitch l) e =
      let parts = all_parts good (map (λ p. p.1) l.pairs) (l.default ∷ []) e in
      and_from (leads_on labels count (label l.default))
      (list_all (leads_on labels count)
      (map (λ (q : ℤ × List ℕ). q.1) (map (λ (q : ℤ × ℕ). (q.0, label q.1)) l.pairs)))
      (leads l.default (and_parts (good l.default) true parts.1).0) (pair_leads l.pairs parts.0)
  instruction_agrees (instruction.Return k) e = refl
  instruction_agrees (instruction.Static a m) e = refl
  instruction_agrees (instruction.Field a m) e = refl
  instruction_agrees (instruction.Array o) e = refl
  instruction_agrees (instruction.Class o c) e = refl
  instruction_agrees (instruction.Invoke how m) e = refl
  instruction_agrees instruction.Throw e = refl
  instruction_agrees (instruction.Monitor o) e = refl

  labelled : (b : Bool) (at : ℕ) (lines : List TextLine)
      → list_all (line_agrees labels count) (label_back b at ++ lines) ≡ list_all (line_agrees labels count) lines
  labelled true at lines = refl
  labelled false at lines = refl

  pub lines_agree : (pcs : List ℕ) (pc : ℕ) (ps : List Placed)
      → list_all (λ p. list_all good (targets p.instruction)) ps ≡ true
      → list_all (line_agrees labels count) (lines_back pcs pc ps) ≡ true
  lines_agree pcs pc [] e = ap (list_all (line_agrees labels count))
      (sym (append-nil (label_back (is_named pcs pc) pc))) ∙ labelled (is_named pcs pc) pc []
  lines_agree pcs pc (p ∷ ps) e =
      let parts = and_parts (list_all good (targets p.instruction))
      (list_all (λ q. list_all good (targets q.instruction)) ps) e in
      let i = with_targets label p.instruction in
      labelled (is_named pcs p.pc) p.pc (Instruction i ∷ lines_back pcs p.next ps)
      ∙ and_from (list_all (leads_on labels count) (targets_of i))
      (list_all (line_agrees labels count) (lines_back pcs p.next ps)) (instruction_agrees p.instruction parts.0)
      (lines_agree pcs p.next ps parts.1)

pub rows_agree : (labels : List (List ℕ × ℕ)) (count : ℕ) (good : ExceptionRow → Bool)
    → ((r : ExceptionRow) → good r ≡ true → row_agrees labels count (row_back r) ≡ true) → (rs : List ExceptionRow)
    → list_all good rs ≡ true
    → list_all (row_agrees labels count) (map row_back rs) ≡ true
rows_agree labels count good f rs e = all_mapped row_back good (row_agrees labels count) f rs e
