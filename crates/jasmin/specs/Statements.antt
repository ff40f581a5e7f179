use Rattle.std.specs.Prelude.{List, [], ◌∷◌, Option, Some, None}
use Rattle.jasmin_words.specs.declared.statements.Statement.{Statement as Held}
use Rattle.model.specs.Texts.Statements.{Statement}

-- the statements that are left where the first of them was read; where there was none, none is left
abbrev pub ahead : Option Held → List Statement → List Statement
ahead None ss = []
ahead (Some s) ss = Some (s.first.now ∷ s.operands) ∷ ss
