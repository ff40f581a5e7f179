-- What is tested of methods before the pool is made.
use Rattle.std.specs.Prelude.{ℕ, ℤ, Bool, true, ◌&&◌, List, length, Option, Some, None}
use Rattle.std.specs.List.{list_all}
use Rattle.std.specs.Option.{unwrap_or}
use Rattle.model.specs.declared.listings.Method.{Method}
use Rattle.model.specs.ClassListings.{ClassListing}
use Rattle.model.specs.CodeListings.{CodeListing}
use Rattle.model.specs.Texts.Assembling.{switch_agrees, size_is_right, end_from, reaches, is_countable}
use Rattle.model.specs.Texts.Labels.{with_targets}
use Rattle.model.specs.Texts.Tables.{named}
use Rattle.model.specs.Texts.Widths.{widened}
use Rattle.model.specs.declared.trees.TextLine.{TextLine}
use Rattle.model.specs.declared.trees.TextLine.TheVariants.{Label, Instruction}

-- the pc of a label in a table of pcs, and 0 of one that isn't there
abbrev pub pc_in : List (List ℕ × ℕ) → List ℕ → ℕ
pc_in pcs name = unwrap_or (named pcs name) 0

-- a line's switch agrees, whatever the pcs of its labels are
abbrev pub line_agrees : List ℤ → (List ℕ → ℕ) → TextLine → Bool
line_agrees narrow f (Label l) = true
line_agrees narrow f (Instruction i) = switch_agrees (with_targets f (widened narrow i))

-- the switches, the size and the branches of code are right
abbrev pub code_is_right : CodeListing → Bool
code_is_right c =
    list_all (λ p. switch_agrees p.instruction) c.instructions && size_is_right (end_from 0 c.instructions)
    && list_all (λ p. reaches p.pc p.instruction) c.instructions

abbrev pub body_is_right : Option CodeListing → Bool
body_is_right None = true
body_is_right (Some c) = code_is_right c

abbrev pub method_is_right : Method → Bool
method_is_right m = body_is_right m.code

-- a number of exception rows that a class file can count
abbrev pub few_rows : Option CodeListing → Bool
few_rows None = true
few_rows (Some c) = is_countable (length c.rows)

abbrev pub has_few_rows : Method → Bool
has_few_rows m = few_rows m.code

-- lists that a class file can count
abbrev pub has_short_lists : ClassListing → Bool
has_short_lists l = is_countable (length l.interfaces) && is_countable (length l.fields)
    && is_countable (length l.methods) && list_all has_few_rows l.methods
