-- The bytes of a class file's parts with the attributes that count and no others.
use Rattle.std.specs.Prelude.{ℕ, ◌^◌, ◌<◌, ◌≤◌, List, [], ◌∷◌, ◌++◌, length, Option, Some, None}
use Rattle.std.specs.List.{flat_map}
use Rattle.model.specs.Bytecode.{spelling}
use Rattle.model.specs.ClassFiles.Numbers.{u2}
use Rattle.model.specs.ClassFiles.Attributes.{Attribute, sized_bytes, attribute_bytes, attributes_bytes}
use Rattle.model.specs.ClassFiles.Heads.{list_bytes}
use Rattle.model.specs.ClassFiles.Codes.{CodePart, row_bytes}
use Rattle.model.specs.ClassFiles.Methods.{MethodPart}
use Rattle.model.specs.declared.bytecode.Located.{Located}

-- the instructions one after another
abbrev pub code_bytes : List Located → List ℕ
code_bytes items = flat_map (λ x. spelling x.pc x.instruction) items

unfoldable pub code_info : CodePart → List ℕ
code_info c = u2 c.max_stack
    ++ (u2 c.max_locals ++ (sized_bytes (code_bytes c.instructions)
    ++ (list_bytes row_bytes c.rows ++ attributes_bytes [])))

abbrev pub code_attribute : CodePart → Attribute
code_attribute c = record { name = c.name; info = code_info c }

abbrev pub code_attribute_bytes : CodePart → List ℕ
code_attribute_bytes c = attribute_bytes (code_attribute c)

abbrev pub code_attributes : Option CodePart → List Attribute
code_attributes None = []
code_attributes (Some c) = code_attribute c ∷ []

-- what a Code attribute has bytes for
abbrev pub CodesFit : Option CodePart → Type 0
CodesFit None = Unit {0}
CodesFit (Some c) = (length (code_bytes c.instructions) ≤ 65535) × (length c.rows < 2 ^ 16)

abbrev pub MethodFits : MethodPart → Type 0
MethodFits m = CodesFit m.code

abbrev pub method_bytes : MethodPart → List ℕ
method_bytes m = u2 m.flags.0 ++ (u2 m.name ++ (u2 m.descriptor ++ attributes_bytes (code_attributes m.code)))

-- what stands after the head: no attribute of the class counts
abbrev pub after_head_bytes : List MethodPart → List ℕ
after_head_bytes methods = list_bytes method_bytes methods ++ attributes_bytes []
