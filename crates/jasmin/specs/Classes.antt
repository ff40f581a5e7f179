use Rattle.std.specs.Prelude.{ℕ, List, Option, Some}
use Rattle.model.specs.declared.flags.ClassFlags.{ClassFlags}
use Rattle.model.specs.Texts.Classes.{members_under}
use Rattle.model.specs.Texts.Statements.{Statement}
use Rattle.model.specs.Texts.Trees.{Tree}

-- the class of a head's flags and name and of a superclass, by the statements after them
abbrev pub class_under : ClassFlags → List ℕ → List ℕ → List Statement → Option Tree
class_under flags name super ss = members_under (record { flags = flags; name = name }) (Some super) ss
