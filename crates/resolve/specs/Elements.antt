use Rattle.std.specs.Prelude.{ℕ, List, Bool, Option}
use Rattle.std.specs.Option.{option_map}
use Rattle.model.specs.Classes.Types.{Element}
use Rattle.model.specs.Classes.Types.Element.{Number, Reference}
use Rattle.resolve.specs.declared.types.Element.{Element as Shown}
use Rattle.resolve.specs.declared.types.Compared.{Compared}
use Rattle.resolve.specs.declared.types.Compared.TheVariants.{Reported, Elements}
use Rattle.resolve.specs.declared.types.Element.TheVariants.{Number as ShownNumber, Reference as ShownReference}

abbrev pub element : Shown → Element
element (ShownNumber letter) = Number letter
element (ShownReference name) = Reference name.now

-- what an array holds, as the definitions say it
abbrev pub shown : Option Shown → Option Element
shown = option_map element

-- the answer on two types, where one on their elements is given
abbrev pub reported : (List ℕ → List ℕ → Bool) → Compared → Bool
reported elements (Reported answer) = answer
reported elements (Elements element other) = elements element.now other.now
