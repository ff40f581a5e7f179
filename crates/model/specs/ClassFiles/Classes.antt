-- Class files (JVMS 4.1).
use Rattle.std.specs.Prelude.{◌≡◌, ℕ, ◌^◌, ◌<◌, List, ◌++◌, length}
use Rattle.std.specs.List.{AllByRecursion}
use Rattle.model.specs.ClassFiles.Attributes.{Attribute, attributes_bytes, AttributeFits}
use Rattle.model.specs.ClassFiles.Heads.{HeadPart, SpellsHead, SpellsList}
use Rattle.model.specs.ClassFiles.Methods.{MethodPart, SpellsMethod}

-- a class file: its head and its methods
pub record ClassPart : Type 0 where
  pub head : HeadPart
  pub methods : List MethodPart

-- the bytes are those of the class file; its own attributes don't count, and nothing stands after them
pub record IsClassFile (bytes : List ℕ) (c : ClassPart) : Type 0 where
  pub head_bytes : List ℕ
  pub head_spells : SpellsHead head_bytes c.head
  pub method_bytes : List ℕ
  pub methods_spell : SpellsList (SpellsMethod c.head.pool c.head.flags.0) method_bytes c.methods
  pub attributes : List Attribute
  pub few : length attributes < 2 ^ 16
  pub fit : AllByRecursion (AttributeFits c.head.pool) attributes
  pub bytes_are : bytes ≡ head_bytes ++ (method_bytes ++ attributes_bytes attributes)
