-- What class files are made of.
use Rattle.std.specs.Prelude.{ℕ, List}
use Rattle.model.specs.ClassFiles.Classes.{ClassPart, IsClassFile}

-- the parts of some class file
abbrev pub IsClass : ClassPart → Type 0
IsClass c = (bytes : List ℕ) × IsClassFile bytes c
