-- Reading a class file.
use Rattle.std.specs.Prelude.{ℕ, List, [], ◌∷◌, Result, Ok, Err}
use Rattle.model.specs.ClassFiles.Heads.{HeadPart}
use Rattle.model.specs.ClassFiles.Classes.{ClassPart}
use Rattle.model.specs.ClassFiles.Methods.{MethodPart}
use Rattle.model.specs.declared.class_files.FormatFault.{FormatFault}
use Rattle.model.specs.declared.class_files.FormatFault.TheVariants.{Trailing}
use Rattle.pool.specs.Reading.Steps.{◌>>=◌}
use Rattle.classfile.specs.Reading.Attributes.{skipped_from}
use Rattle.classfile.specs.Reading.Lists.{list_from}
use Rattle.classfile.specs.Reading.Heads.{head_from}
use Rattle.classfile.specs.Reading.Methods.{method_from}

-- the methods and the end after a head
abbrev pub ended : {A : Type 0} → A → List ℕ → Result A FormatFault
ended x [] = Ok x
ended x (b ∷ bytes) = Err Trailing

unfoldable pub after_head_from : HeadPart → List ℕ → Result (List MethodPart) FormatFault
after_head_from head bytes = do
  methods ← list_from (method_from head.pool head.flags.0) bytes
  attributes ← skipped_from head.pool methods.1
  ended methods.0 attributes.1

unfoldable pub file_from : List ℕ → Result ClassPart FormatFault
file_from bytes = do
  head ← head_from bytes
  methods ← after_head_from head.0 head.1
  Ok (record { head = head.0; methods = methods })
