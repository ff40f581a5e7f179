use Rattle.std.specs.Prelude.{ℤ, Bool, not, List, [], ◌∷◌, ◌++◌, filter, take, Option, Some, None, if◌then◌else◌}
use Rattle.std.specs.List.{list_any}
use Rattle.std.specs.Ordering.{int_eq}
use Rattle.model.specs.declared.instructions.Constant.{Constant}
use Rattle.model.specs.declared.instructions.Constant.TheVariants as constant
use Rattle.model.specs.declared.instructions.Instruction.TheVariants.{Nop, Constant as ConstantOf, Local, Stack, Number}
use Rattle.model.specs.declared.instructions.Instruction.TheVariants.{Branch, TableSwitch, LookupSwitch, Return, Static}
use Rattle.model.specs.declared.instructions.Instruction.TheVariants.{Field, Array, Class, Invoke, Throw, Monitor}
use Rattle.model.specs.declared.instructions.Width.TheVariants.{Narrow, Wide}
use Rattle.model.specs.declared.trees.MethodTree.{MethodTree}
use Rattle.model.specs.declared.trees.TextLine.{TextLine}
use Rattle.model.specs.declared.trees.TextLine.TheVariants.{Label, Instruction}
use Rattle.model.specs.Texts.Bodies.{Body}
use Rattle.model.specs.Texts.Instructions.{Written}

-- `ldc` names its number by one byte, so that only the first 255 different numbers that it uses in a text go with it;
-- with any other it counts as `ldc_w`

-- a number after those that an `ldc` has used
abbrev pub ldc_before : Constant ℤ ℤ → List ℤ → List ℤ
ldc_before constant.Null zs = zs
ldc_before (constant.SmallInt n) zs = zs
ldc_before (constant.SmallLong n) zs = zs
ldc_before (constant.Byte n) zs = zs
ldc_before (constant.Short n) zs = zs
ldc_before (constant.Int Narrow n) zs = n ∷ zs
ldc_before (constant.Int Wide n) zs = zs
ldc_before (constant.Long n) zs = zs

abbrev pub used_before : Written → List ℤ → List ℤ
used_before Nop zs = zs
used_before (ConstantOf c) zs = ldc_before c zs
used_before (Local l) zs = zs
used_before (Stack s) zs = zs
used_before (Number n) zs = zs
used_before (Branch t target) zs = zs
used_before (TableSwitch t) zs = zs
used_before (LookupSwitch l) zs = zs
used_before (Return kind) zs = zs
used_before (Static a m) zs = zs
used_before (Field a m) zs = zs
used_before (Array a) zs = zs
used_before (Class o c) zs = zs
used_before (Invoke i m) zs = zs
used_before Throw zs = zs
used_before (Monitor m) zs = zs

-- the numbers that `ldc` uses in lines, in order
abbrev pub used_in : List TextLine → List ℤ
used_in [] = []
used_in (Label l ∷ lines) = used_in lines
used_in (Instruction i ∷ lines) = used_before i (used_in lines)

abbrev pub used_in_body : Option Body → List ℤ
used_in_body None = []
used_in_body (Some body) = used_in body.lines

abbrev pub used_in_methods : List MethodTree → List ℤ
used_in_methods [] = []
used_in_methods (m ∷ ms) = used_in_body m.body ++ used_in_methods ms

abbrev pub is_among : List ℤ → ℤ → Bool
is_among zs z = list_any (λ x. int_eq x z) zs

-- the different ones among numbers, each at its first use
abbrev pub different : List ℤ → List ℤ
different [] = []
different (z ∷ zs) = z ∷ filter (λ y. not (int_eq z y)) (different zs)

-- the numbers that go with `ldc`
abbrev pub narrow_numbers : List MethodTree → List ℤ
narrow_numbers ms = take 255 (different (used_in_methods ms))

abbrev pub widened_constant : List ℤ → Constant ℤ ℤ → Constant ℤ ℤ
widened_constant narrow constant.Null = constant.Null
widened_constant narrow (constant.SmallInt n) = constant.SmallInt n
widened_constant narrow (constant.SmallLong n) = constant.SmallLong n
widened_constant narrow (constant.Byte n) = constant.Byte n
widened_constant narrow (constant.Short n) = constant.Short n
widened_constant narrow (constant.Int Narrow n) = constant.Int (if is_among narrow n then Narrow else Wide) n
widened_constant narrow (constant.Int Wide n) = constant.Int Wide n
widened_constant narrow (constant.Long n) = constant.Long n

abbrev pub widened : List ℤ → Written → Written
widened narrow Nop = Nop
widened narrow (ConstantOf c) = ConstantOf (widened_constant narrow c)
widened narrow (Local l) = Local l
widened narrow (Stack s) = Stack s
widened narrow (Number n) = Number n
widened narrow (Branch t target) = Branch t target
widened narrow (TableSwitch t) = TableSwitch t
widened narrow (LookupSwitch l) = LookupSwitch l
widened narrow (Return kind) = Return kind
widened narrow (Static a m) = Static a m
widened narrow (Field a m) = Field a m
widened narrow (Array a) = Array a
widened narrow (Class o c) = Class o c
widened narrow (Invoke i m) = Invoke i m
widened narrow Throw = Throw
widened narrow (Monitor m) = Monitor m

abbrev pub widened_line : List ℤ → TextLine → TextLine
widened_line narrow (Label l) = Label l
widened_line narrow (Instruction i) = Instruction (widened narrow i)
