use Rattle.std.specs.Prelude.{◌≡◌, true, false, List, [], ◌∷◌, Option, Some, None, if◌then◌else◌}
use Rattle.std.specs.Option.{option_map, option_and_then}
use Rattle.jasmin.specs.declared.bodies.Part.{Part as Held}
use Rattle.jasmin.specs.declared.bodies.Part.TheVariants.{End, StackLimit, LocalsLimit, Row, Line, Open}
use Rattle.jasmin.specs.declared.switches.OpenSwitch.{OpenSwitch}
use Rattle.jasmin.specs.Switches.{switch_of}
use Rattle.model.specs.declared.trees.MethodTree.{MethodTree}
use Rattle.model.specs.Texts.Bodies.{Body}
use Rattle.model.specs.Texts.Classes.{is_end}
use Rattle.model.specs.Texts.Heads.{MethodHead}
use Rattle.model.specs.Texts.Methods.{Saying, part, opens, stack_limit, locals_limit, catch_row, code_line, saying_of}
use Rattle.model.specs.Texts.Methods.{body_of_parts, parts_of, body_of, method_under}
use Rattle.model.specs.Texts.Statements.{Statement}
use Rattle.model.specs.Texts.Switches.{Switch}

-- the switch that may be open, as the text relation has it
abbrev pub opened : Option OpenSwitch → Option Switch
opened switch = option_map switch_of switch

-- a statement of a body that does not end it
abbrev pub GoesOnWith : Option Switch → Statement → Saying → Type 0
GoesOnWith current s saying = (is_end s ≡ false) × (saying_of current s ≡ Some saying)

-- what a statement of a body says where a switch may be open: that the body ends, or what the relation has
abbrev pub Says : Option Switch → Statement → Held → Type 0
Says current s End = (current ≡ None) × (is_end s ≡ true)
Says current s (StackLimit n) = GoesOnWith current s (part (stack_limit n))
Says current s (LocalsLimit n) = GoesOnWith current s (part (locals_limit n))
Says current s (Row row) = GoesOnWith current s (part (catch_row row))
Says current s (Line line) = GoesOnWith current s (part (code_line line))
Says current s (Open switch) = GoesOnWith current s (opens (switch_of switch))

-- a statement that neither says anything nor, where no switch is open, ends a body
abbrev pub SaysNothing : Option Switch → Statement → Type 0
SaysNothing None s = (is_end s ≡ false) × (saying_of None s ≡ None)
SaysNothing (Some switch) s = saying_of (Some switch) s ≡ None

abbrev pub in_block : Statement → Option (List Statement) → Option (List Statement)
in_block s block = option_map (λ ss. s ∷ ss) block

-- the statements before the first `.end method`, if there is one
abbrev pub block_of : List Statement → Option (List Statement)
block_of [] = None
block_of (s ∷ ss) = if is_end s then Some [] else in_block s (block_of ss)

-- the statements after the first `.end method`
abbrev pub after_block : List Statement → List Statement
after_block [] = []
after_block (s ∷ ss) = if is_end s then ss else after_block ss

-- the body that statements begin with, whether its labels agree or not
abbrev pub first_parts : List Statement → Option Body
first_parts ss = option_and_then (λ block. option_and_then body_of_parts (parts_of block)) (block_of ss)

-- the body that statements begin with
abbrev pub first_body : List Statement → Option Body
first_body ss = option_and_then body_of (block_of ss)

-- the method under a head that statements begin with
abbrev pub first_method : MethodHead → List Statement → Option MethodTree
first_method head ss = option_and_then (method_under (Some head)) (block_of ss)
