-- What a text spells, a text can say.
use Rattle.std.proofs.Common.{◌≡◌, ℕ, Bool, true, Option, Some, None, refl}
use Rattle.std.specs.Prelude.{nat_le}
use Rattle.std.specs.List.{list_all}
use Rattle.std.proofs.lemmas.Bool.{and_parts, and_from}
use Rattle.model.specs.declared.instructions.Instruction.TheVariants as instruction
use Rattle.model.specs.declared.instructions.Invocation.{Invocation}
use Rattle.model.specs.declared.instructions.Invocation.TheVariants as invocation
use Rattle.model.specs.declared.listings.Method.{Method}
use Rattle.model.specs.declared.listings.Placed.{Placed}
use Rattle.model.specs.ClassFiles.Methods.{wants_code}
use Rattle.model.specs.ClassFiles.References.{is_field, is_method}
use Rattle.model.specs.ClassListings.{ClassListing}
use Rattle.model.specs.CodeListings.{CodeListing}
use Rattle.model.specs.Table.Next.{Listed}
use Rattle.model.specs.Texts.Disassembling.{targets}
use Rattle.model.specs.Texts.Names.{is_class_name}
use Rattle.model.specs.Texts.Spelled.{count_is_spelled, method_is_named, operands_are_spelled, is_pc}
use Rattle.model.specs.Texts.Spelled.{instruction_is_spelled, row_is_spelled, code_is_spelled, body_is_spelled}
use Rattle.model.specs.Texts.Spelled.{method_is_spelled, is_spelled}
use Rattle.disasm.specs.Sayable.{count_is_sayable, operand_is_sayable, code_is_sayable, body_is_sayable}
use Rattle.disasm.specs.Sayable.{method_is_sayable, superclass_is_sayable, is_sayable}
use Rattle.disasm.proofs.Back.Lists.{all_from}

count_is : (how : Invocation) → count_is_spelled how ≡ true → count_is_sayable how ≡ true
count_is invocation.Virtual h = refl
count_is invocation.Special h = refl
count_is invocation.Static h = refl
count_is (invocation.Interface count) h = (and_parts (nat_le 1 count) (nat_le count 255) h).0

operand_is : (i : Listed) → operands_are_spelled i ≡ true → operand_is_sayable i ≡ true
operand_is instruction.Nop h = refl
operand_is (instruction.Constant c) h = refl
operand_is (instruction.Local a) h = refl
operand_is (instruction.Stack op) h = refl
operand_is (instruction.Number op) h = refl
operand_is (instruction.Branch t target) h = refl
operand_is (instruction.TableSwitch s) h = refl
operand_is (instruction.LookupSwitch s) h = refl
operand_is (instruction.Return k) h = refl
operand_is (instruction.Static a m) h = (and_parts (is_class_name m.class) (is_field m.name m.descriptor) h).0
operand_is (instruction.Field a m) h = (and_parts (is_class_name m.class) (is_field m.name m.descriptor) h).0
operand_is (instruction.Array op) h = refl
operand_is (instruction.Class op c) h = refl
operand_is (instruction.Invoke how m) h =
    let both = and_parts (count_is_spelled how) (method_is_named m) h in
    and_from (is_class_name m.class) (count_is_sayable how)
    (and_parts (is_class_name m.class) (is_method m.name m.descriptor) both.1).0 (count_is how both.0)
operand_is instruction.Throw h = refl
operand_is (instruction.Monitor op) h = refl

code_is : (c : CodeListing) → code_is_spelled c ≡ true → code_is_sayable c ≡ true
code_is c h =
    let ps = c.instructions in
    let one = and_parts _ (list_all (row_is_spelled ps) c.rows) h in
    let two = and_parts _ (list_all (instruction_is_spelled ps) ps) one.0 in
    and_from (list_all (λ p. operand_is_sayable p.instruction) ps) (list_all (row_is_spelled ps) c.rows)
    (all_from (instruction_is_spelled ps) (λ (p : Placed). operand_is_sayable p.instruction)
    (λ p g. operand_is p.instruction (and_parts (operands_are_spelled p.instruction)
    (list_all (is_pc ps) (targets p.instruction)) g).0) ps two.1)
    one.1

body_is : (wanted : Bool) (o : Option CodeListing) → body_is_spelled wanted o ≡ true → body_is_sayable o ≡ true
body_is wanted None h = refl
body_is wanted (Some c) h = code_is c (and_parts wanted (code_is_spelled c) h).1

method_is : (class : ℕ) (m : Method) → method_is_spelled class m ≡ true → method_is_sayable m ≡ true
method_is class m h = body_is (wants_code m.flags.0) m.code (and_parts _ (body_is_spelled (wants_code m.flags.0) m.code)
    h).1

pub spelled_is_sayable : (l : ClassListing) → is_spelled l ≡ true → is_sayable l ≡ true
unfolding is_spelled is_sayable
spelled_is_sayable l h =
    let six = and_parts _ _ h in
    let five = and_parts _ (list_all (method_is_spelled l.flags.0) l.methods) six.0 in
    let four = and_parts _ _ five.0 in
    let three = and_parts _ _ four.0 in
    let two = and_parts _ _ three.0 in
    let one = and_parts _ _ two.0 in
    let head = and_parts _ (superclass_is_sayable l.flags.0 l.superclass) one.0 in
    and_from (superclass_is_sayable l.flags.0 l.superclass) (list_all method_is_sayable l.methods) head.1
    (all_from (method_is_spelled l.flags.0) method_is_sayable (method_is l.flags.0) l.methods five.1)
