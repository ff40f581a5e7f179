use Rattle.std.specs.Prelude.{ℕ, ◌+◌, nat_lt, Bool, true, false, not, ◌&&◌, List, [], ◌∷◌, map, is_some, Option, Some}
use Rattle.std.specs.Prelude.{None}
use Rattle.std.specs.List.{list_all}
use Rattle.model.specs.declared.instructions.Instruction.TheVariants as instruction
use Rattle.model.specs.declared.trees.CatchRow.{CatchRow}
use Rattle.model.specs.declared.trees.TextLine.{TextLine}
use Rattle.model.specs.declared.trees.TextLine.TheVariants.{Label, Instruction}
use Rattle.model.specs.Texts.Instructions.{Written}
use Rattle.model.specs.Texts.Tables.{named}

-- the labels of lines, in order, each with the number of instructions before it, of which n stand before the lines
abbrev pub labels_from : ℕ → List TextLine → List (List ℕ × ℕ)
labels_from n [] = []
labels_from n (Label l ∷ lines) = (l, n) ∷ labels_from n lines
labels_from n (Instruction i ∷ lines) = labels_from (n + 1) lines

abbrev pub labels_in : List TextLine → List (List ℕ × ℕ)
labels_in lines = labels_from 0 lines

-- how many instructions stand among lines, after n others
abbrev pub count_from : ℕ → List TextLine → ℕ
count_from n [] = n
count_from n (Label l ∷ lines) = count_from n lines
count_from n (Instruction i ∷ lines) = count_from (n + 1) lines

abbrev pub count_in : List TextLine → ℕ
count_in lines = count_from 0 lines

-- whether no label is given twice
abbrev pub are_different : List (List ℕ × ℕ) → Bool
are_different [] = true
are_different (row ∷ labels) = not (is_some (named labels row.0)) && are_different labels

abbrev pub is_given : List (List ℕ × ℕ) → List ℕ → Bool
is_given labels name = is_some (named labels name)

abbrev pub is_before : ℕ → Option ℕ → Bool
is_before count None = false
is_before count (Some n) = nat_lt n count

-- whether a label is given before the last of so many instructions
abbrev pub leads_on : List (List ℕ × ℕ) → ℕ → List ℕ → Bool
leads_on labels count name = is_before count (named labels name)

-- where an instruction may go to
abbrev pub targets_of : Written → List (List ℕ)
targets_of (instruction.Branch t target) = target ∷ []
targets_of (instruction.TableSwitch t) = t.default ∷ t.targets
targets_of (instruction.LookupSwitch l) = l.default ∷ map (λ p. p.1) l.pairs
targets_of i = []

abbrev pub line_agrees : List (List ℕ × ℕ) → ℕ → TextLine → Bool
line_agrees labels count (Label l) = true
line_agrees labels count (Instruction i) = list_all (leads_on labels count) (targets_of i)

-- a row may begin and end at any label
abbrev pub row_agrees : List (List ℕ × ℕ) → ℕ → CatchRow → Bool
row_agrees labels count row = is_given labels row.start && is_given labels row.end && leads_on labels count row.handler

-- whether each label is given once, and each that is used is given, before an instruction but where it bounds a row
unfoldable pub labels_agree : List CatchRow → List TextLine → Bool
labels_agree rows lines =
    are_different (labels_in lines) && list_all (line_agrees (labels_in lines) (count_in lines)) lines
    && list_all (row_agrees (labels_in lines) (count_in lines)) rows
