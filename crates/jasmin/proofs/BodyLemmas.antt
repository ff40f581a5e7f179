-- What the statements of a body say, one by one.
use Rattle.std.proofs.Common.{◌≡◌, ℕ, true, false, List, [], ◌∷◌, ◌++◌, refl, ◌∙◌, ap, inl, inr, Some, None, Option}
use Rattle.std.proofs.Common.{codes, append_assoc, append-nil}
use Rattle.std.specs.Option.{option_and_then, option_to_list, is_some}
use Rattle.std.specs.Str.{bytes_eq}
use Rattle.std.proofs.lemmas.Slice.Eq.{bytes_eq-Decides}
use Rattle.jasmin_words.proofs.Places.{bool_tells}
use Rattle.model.specs.declared.trees.CatchRow.{CatchRow}
use Rattle.model.specs.declared.trees.TextLine.{TextLine}
use Rattle.model.specs.Texts.Bodies.{Body}
use Rattle.model.specs.Texts.Classes.{is_end}
use Rattle.model.specs.Texts.Mnemonics.{mnemonic_of}
use Rattle.model.specs.Texts.Methods.{Part, Saying, part, opens, stack_limit, locals_limit, catch_row, code_line}
use Rattle.model.specs.Texts.Methods.{saying_of, parts_by, parts_from, parts_of, part_before, stack_limits}
use Rattle.model.specs.Texts.Methods.{locals_limits, catch_rows, code_lines, body_with, body_of_parts, agreeing as kept}
use Rattle.model.specs.Texts.Statements.{Statement}
use Rattle.model.specs.Texts.Switches.{Switch, SwitchLine, switch_line}
use Rattle.model.specs.Texts.Uses.{labels_agree}
use Rattle.jasmin.specs.declared.bodies.Part.TheVariants as held
use Rattle.jasmin.specs.Bodies.{Says, SaysNothing, block_of, in_block, after_block, first_parts, first_body}

-- a word that is found to be a text is that text
pub word_is : (word text : List ℕ) → bytes_eq word text ≡ true → word ≡ text
word_is word text h = (bytes_eq-Decides word text).0 h

-- `.end` begins no part of a body
pub end_says_nothing : (words : List (List ℕ)) → saying_of None (Some (codes ".end" ∷ words)) ≡ None
unfolding mnemonic_of
end_says_nothing words = refl

pub ruleset directives = (word_is, end_says_nothing)

-- a line of a switch has one word or three, and so does not end a body
pub line_is_no_end : (switch : Switch) (words : List (List ℕ)) (line : SwitchLine) → switch_line switch words
    ≡ Some line → is_end (Some words) ≡ false
line_is_no_end switch [] line h = refl
line_is_no_end switch (word ∷ []) line h = elim (bool_tells (bytes_eq word (codes ".end"))) [
  | inl t ↦ rw t refl
  | inr f ↦ rw f refl
]
line_is_no_end switch (word ∷ colon ∷ []) line h = cc
line_is_no_end switch (word ∷ colon ∷ label ∷ words) line h = elim (bool_tells (bytes_eq word (codes ".end"))) [
  | inl t ↦ rw t refl
  | inr f ↦ rw f refl
]

pub ruleset switches = (line_is_no_end)

-- what was read of a body so far
record SoFar : Type 0 where
  stack : Option ℕ
  locals : Option ℕ
  rows : List CatchRow
  lines : List TextLine

-- the body of what was read so far and of parts that follow
limited : SoFar → List Part → Option Body
limited f parts =
    body_with (option_to_list f.stack ++ stack_limits parts) (option_to_list f.locals ++ locals_limits parts) (f.rows
    ++ catch_rows parts) (f.lines ++ code_lines parts)

-- the body of what was read so far and of a block that follows
rest_of : SoFar → Option Switch → Option (List Statement) → Option Body
rest_of f current block = option_and_then (λ ss. option_and_then (limited f) (parts_from ss current)) block

-- the body of what was read so far and of statements that follow, where a switch may be open
pub rest_from : Option ℕ → Option ℕ → List CatchRow → List TextLine → Option Switch → List Statement → Option Body
rest_from stack locals rows lines current ss = rest_of (record {
  stack = stack;
  locals = locals;
  rows = rows;
  lines = lines;
}) current (block_of ss)

pub rest_start : (ss : List Statement) → rest_from None None [] [] None ss ≡ first_parts ss
unfolding rest_from rest_of limited
rest_start ss = refl

-- the text ends in the body
pub rest_missing : (stack locals : Option ℕ) (rows : List CatchRow) (lines : List TextLine) (current : Option Switch)
    (before : List Statement) → before ≡ [] → rest_from stack locals rows lines current before ≡ None
unfolding rest_from rest_of
rest_missing stack locals rows lines current before e = rw e refl

-- what a statement says before a block that follows
in_rest : SoFar → Option Saying → Option (List Statement) → Option Body
in_rest f saying None = None
in_rest f saying (Some block) = option_and_then (limited f) (parts_by saying (parts_from block))

by_block : (f : SoFar) (current : Option Switch) (s : Statement) (block : Option (List Statement))
    → rest_of f current (in_block s block) ≡ in_rest f (saying_of current s) block
unfolding rest_of in_rest
by_block f current s None = refl
by_block f current s (Some block) = refl

rest_says : (f : SoFar) (current : Option Switch) (before : List Statement) (s : Statement) (ss : List Statement)
    (saying : Option Saying) → before ≡ s ∷ ss → is_end s ≡ false → saying_of current s ≡ saying
    → rest_of f current (block_of before) ≡ in_rest f saying (block_of ss)
rest_says f current before s ss saying e n h = rw (e, ← h, n) (by_block f current s (block_of ss))

said_nothing : (f : SoFar) (block : Option (List Statement)) → in_rest f None block ≡ None
unfolding in_rest
said_nothing f None = refl
said_nothing f (Some block) = refl

-- a switch is left open at the end of a body
left_open : (f : SoFar) (switch : Switch) (s : Statement) (ss : List Statement) → is_end s ≡ true
    → rest_of f (Some switch) (block_of (s ∷ ss)) ≡ None
unfolding rest_of
left_open f switch s ss h = rw h refl

pub rest_nothing : (stack locals : Option ℕ) (rows : List CatchRow) (lines : List TextLine) (current : Option Switch)
    (before : List Statement) (s : Statement) (ss : List Statement) → before ≡ s ∷ ss → SaysNothing current s
    → rest_from stack locals rows lines current before ≡ None
unfolding rest_from
rest_nothing stack locals rows lines None before s ss e h = rest_says _ None before s ss None e h.0 h.1
    ∙ said_nothing _ (block_of ss)
rest_nothing stack locals rows lines (Some switch) before s ss e h =
    elim (bool_tells (is_end s)) [
      | inl t ↦ rw e (left_open _ switch s ss t)
      | inr n ↦ rest_says _ (Some switch) before s ss None e n h ∙ said_nothing _ (block_of ss)
    ]

-- a switch goes on
opens_block : (f : SoFar) (switch : Switch) (block : Option (List Statement)) → in_rest f (Some (opens switch)) block
    ≡ rest_of f (Some switch) block
unfolding in_rest rest_of
opens_block f switch None = refl
opens_block f switch (Some block) = refl

pub rest_opens : (stack locals : Option ℕ) (rows : List CatchRow) (lines : List TextLine) (current : Option Switch)
    (before : List Statement) (s : Statement) (ss : List Statement) (switch : Switch) → before ≡ s ∷ ss
    → is_end s ≡ false → saying_of current s ≡ Some (opens switch) → rest_from stack locals rows lines current before
    ≡ rest_from stack locals rows lines (Some switch) ss
unfolding rest_from
rest_opens stack locals rows lines current before s ss switch e n h = rest_says _ current before s ss
    (Some (opens switch)) e n h ∙ opens_block _ switch (block_of ss)

-- a part that is read changes what was read so far
part_step : (f g : SoFar) (p : Part) → ((parts : List Part) → limited f (p ∷ parts) ≡ limited g parts)
    → (o : Option (List Part)) → option_and_then (limited f) (part_before p o) ≡ option_and_then (limited g) o
part_step f g p h None = refl
part_step f g p h (Some parts) = h parts

part_block : (f g : SoFar) (p : Part) → ((parts : List Part) → limited f (p ∷ parts) ≡ limited g parts)
    → (block : Option (List Statement)) → in_rest f (Some (part p)) block ≡ rest_of g None block
unfolding in_rest rest_of
part_block f g p h None = refl
part_block f g p h (Some block) = part_step f g p h (parts_from block None)

rest_part : (f g : SoFar) (current : Option Switch) (before : List Statement) (s : Statement) (ss : List Statement)
    (p : Part) → before ≡ s ∷ ss → is_end s ≡ false → saying_of current s ≡ Some (part p)
    → ((parts : List Part) → limited f (p ∷ parts) ≡ limited g parts) → rest_of f current (block_of before)
    ≡ rest_of g None (block_of ss)
rest_part f g current before s ss p e n h step = rest_says f current before s ss (Some (part p)) e n h
    ∙ part_block f g p step (block_of ss)

pub rest_line : (stack locals : Option ℕ) (rows : List CatchRow) (lines : List TextLine) (current : Option Switch)
    (before : List Statement) (s : Statement) (ss : List Statement) (line : TextLine) → before ≡ s ∷ ss
    → Says current s (held.Line line) → rest_from stack locals rows lines current before
    ≡ rest_from stack locals rows (lines ++ line ∷ []) None ss
unfolding rest_from limited
rest_line stack locals rows lines current before s ss line e h = rest_part _ _ current before s ss (code_line line) e
    h.0 h.1 (λ parts. rw append_assoc refl)

pub rest_row : (stack locals : Option ℕ) (rows : List CatchRow) (lines : List TextLine) (current : Option Switch)
    (before : List Statement) (s : Statement) (ss : List Statement) (row : CatchRow) → before ≡ s ∷ ss
    → Says current s (held.Row row) → rest_from stack locals rows lines current before
    ≡ rest_from stack locals (rows ++ row ∷ []) lines None ss
unfolding rest_from limited
rest_row stack locals rows lines current before s ss row e h = rest_part _ _ current before s ss (catch_row row) e h.0
    h.1 (λ parts. rw append_assoc refl)

pub rest_stack : (stack locals : Option ℕ) (rows : List CatchRow) (lines : List TextLine) (current : Option Switch)
    (before : List Statement) (s : Statement) (ss : List Statement) (n : ℕ) → false ≡ is_some stack → before ≡ s ∷ ss
    → Says current s (held.StackLimit n) → rest_from stack locals rows lines current before
    ≡ rest_from (Some n) locals rows lines None ss
unfolding rest_from limited
rest_stack None locals rows lines current before s ss n none e h = rest_part _ _ current before s ss (stack_limit n) e
    h.0 h.1 (λ parts. refl)
rest_stack (Some k) locals rows lines current before s ss n none e h = cc

pub rest_locals : (stack locals : Option ℕ) (rows : List CatchRow) (lines : List TextLine) (current : Option Switch)
    (before : List Statement) (s : Statement) (ss : List Statement) (n : ℕ) → false ≡ is_some locals → before ≡ s ∷ ss
    → Says current s (held.LocalsLimit n) → rest_from stack locals rows lines current before
    ≡ rest_from stack (Some n) rows lines None ss
unfolding rest_from limited
rest_locals stack None rows lines current before s ss n none e h = rest_part _ _ current before s ss (locals_limit n) e
    h.0 h.1 (λ parts. refl)
rest_locals stack (Some k) rows lines current before s ss n none e h = cc

-- a part that no body has any more
never_step : (f : SoFar) (p : Part) → ((parts : List Part) → limited f (p ∷ parts) ≡ None) → (o : Option (List Part))
    → option_and_then (limited f) (part_before p o) ≡ None
never_step f p h None = refl
never_step f p h (Some parts) = h parts

never_block : (f : SoFar) (p : Part) → ((parts : List Part) → limited f (p ∷ parts) ≡ None)
    → (block : Option (List Statement)) → in_rest f (Some (part p)) block ≡ None
unfolding in_rest
never_block f p h None = refl
never_block f p h (Some block) = never_step f p h (parts_from block None)

rest_never : (f : SoFar) (current : Option Switch) (before : List Statement) (s : Statement) (ss : List Statement)
    (p : Part) → before ≡ s ∷ ss → is_end s ≡ false → saying_of current s ≡ Some (part p)
    → ((parts : List Part) → limited f (p ∷ parts) ≡ None) → rest_of f current (block_of before) ≡ None
rest_never f current before s ss p e n h step = rest_says f current before s ss (Some (part p)) e n h
    ∙ never_block f p step (block_of ss)

-- a limit of the stack that is given again
pub rest_stack_twice : (stack locals : Option ℕ) (rows : List CatchRow) (lines : List TextLine)
    (current : Option Switch) (before : List Statement) (s : Statement) (ss : List Statement) (n : ℕ)
    → true ≡ is_some stack → before ≡ s ∷ ss
    → Says current s (held.StackLimit n) → rest_from stack locals rows lines current before ≡ None
unfolding rest_from limited
rest_stack_twice None locals rows lines current before s ss n some e h = cc
rest_stack_twice (Some k) locals rows lines current before s ss n some e h = rest_never _ current before s ss
    (stack_limit n) e h.0 h.1 (λ parts. refl)

-- no body has two limits of its locals
two_locals : (stack : List ℕ) (k n : ℕ) (more : List ℕ) (rows : List CatchRow) (lines : List TextLine)
    → body_with stack (k ∷ n ∷ more) rows lines ≡ None
two_locals [] k n more rows lines = refl
two_locals (s ∷ []) k n more rows lines = refl
two_locals (s ∷ t ∷ ss) k n more rows lines = refl

-- a limit of the locals that is given again
pub rest_locals_twice : (stack locals : Option ℕ) (rows : List CatchRow) (lines : List TextLine)
    (current : Option Switch) (before : List Statement) (s : Statement) (ss : List Statement) (n : ℕ)
    → true ≡ is_some locals → before ≡ s ∷ ss
    → Says current s (held.LocalsLimit n) → rest_from stack locals rows lines current before ≡ None
unfolding rest_from limited
rest_locals_twice stack None rows lines current before s ss n some e h = cc
rest_locals_twice stack (Some k) rows lines current before s ss n some e h = rest_never _ current before s ss
    (locals_limit n) e h.0 h.1 (λ parts. two_locals _ k n _ _ _)

-- the end of the body
pub rest_end : (stack locals : Option ℕ) (rows : List CatchRow) (lines : List TextLine) (current : Option Switch)
    (before : List Statement) (s : Statement) (ss : List Statement) → before ≡ s ∷ ss → Says current s held.End
    → rest_from stack locals rows lines current before ≡ body_with (option_to_list stack) (option_to_list locals) rows
    lines
unfolding rest_from rest_of limited
rest_end stack locals rows lines current before s ss e h = rw (h.0, e, h.1) (simp append-nil refl)

pub after_end : (before : List Statement) (s : Statement) (ss : List Statement) → before ≡ s ∷ ss → is_end s ≡ true
    → after_block before ≡ ss
after_end before s ss e h = rw (e, h) refl

pub after_other : (before : List Statement) (s : Statement) (ss : List Statement) → before ≡ s ∷ ss → is_end s ≡ false
    → after_block before ≡ after_block ss
after_other before s ss e h = rw (e, h) refl

pub ruleset bodies = (
  rest_start,
  rest_missing,
  rest_nothing,
  rest_line,
  rest_row,
  rest_opens,
  rest_stack,
  rest_stack_twice,
  rest_locals,
  rest_locals_twice,
  rest_end,
  after_end,
  after_other,
)

-- the body whose labels are looked at
labels_of_parts : (block : Option (List Statement))
    → option_and_then (λ b. option_and_then kept (option_and_then body_of_parts (parts_of b))) block
    ≡ option_and_then kept (option_and_then (λ b. option_and_then body_of_parts (parts_of b)) block)
labels_of_parts None = refl
labels_of_parts (Some block) = refl

first_kept : (ss : List Statement) → first_body ss ≡ option_and_then kept (first_parts ss)
first_kept ss = labels_of_parts (block_of ss)

pub no_parts : (ss : List Statement) → first_parts ss ≡ None → first_body ss ≡ None
no_parts ss h = first_kept ss ∙ ap (option_and_then kept) h

pub parts_agree : (ss : List Statement) (body : Body) → first_parts ss ≡ Some body → labels_agree body.rows body.lines
    ≡ true → first_body ss ≡ Some body
parts_agree ss body h a = first_kept ss ∙ ap (option_and_then kept) h ∙ rw a refl

pub parts_disagree : (ss : List Statement) (body : Body) → first_parts ss ≡ Some body
    → labels_agree body.rows body.lines ≡ false → first_body ss ≡ None
parts_disagree ss body h a = first_kept ss ∙ ap (option_and_then kept) h ∙ rw a refl

pub ruleset agreeing = (no_parts, parts_agree, parts_disagree)
