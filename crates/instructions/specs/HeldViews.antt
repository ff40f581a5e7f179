use Rattle.model.specs.Shows.{ObjectKind}
use Rattle.model.specs.Shows.ObjectKind.{OfClass as ClassKind, OfElements as ElementsKind}
use Rattle.instructions.specs.declared.held.HeldKind.{HeldKind}
use Rattle.instructions.specs.declared.held.HeldKind.TheVariants.{OfClass, OfElements}

-- what the object is that a view of it shows
abbrev pub kind_in : HeldKind → ObjectKind
kind_in (OfClass class) = ClassKind class
kind_in (OfElements element) = ElementsKind element
