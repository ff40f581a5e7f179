-- The operations of instructions, row by row from JVMS 6.5.
use Rattle.std.proofs.Common.{◌≡◌, pos, negsuc, Some, None, refl}
use Rattle.model.specs.declared.values.Kind.TheVariants as kind
use Rattle.model.specs.declared.instructions.Comparison.TheVariants as comparison
use Rattle.model.specs.declared.instructions.Constant.TheVariants as constant
use Rattle.model.specs.declared.instructions.Conversion.TheVariants as conversion
use Rattle.model.specs.declared.instructions.FirstLocal.TheVariants as first
use Rattle.model.specs.declared.instructions.Identity.TheVariants as identity
use Rattle.model.specs.declared.instructions.Increment.TheVariants as increment
use Rattle.model.specs.declared.instructions.Instruction.TheVariants as instruction
use Rattle.model.specs.declared.instructions.Local.TheVariants as place
use Rattle.model.specs.declared.instructions.LocalAccess.TheVariants as access
use Rattle.model.specs.declared.instructions.NumberKind.TheVariants as number
use Rattle.model.specs.declared.instructions.NumberOperation.TheVariants as computes
use Rattle.model.specs.declared.instructions.Operator.TheVariants as operator
use Rattle.model.specs.declared.instructions.SmallInt.TheVariants as small
use Rattle.model.specs.declared.instructions.SmallLong.TheVariants as long
use Rattle.model.specs.declared.instructions.StackOperation.TheVariants as stack
use Rattle.model.specs.declared.instructions.Test.TheVariants as test
use Rattle.model.specs.declared.instructions.Width.TheVariants as width
use Rattle.linking.specs.declared.operations.Operation.TheVariants as operation
use Rattle.linking.specs.PlainOperations.{plain_operation}

-- ---- constants

null : plain_operation (instruction.Constant constant.Null) ≡ Some operation.AconstNull
null = refl

minus-one : plain_operation (instruction.Constant (constant.SmallInt small.MinusOne))
    ≡ Some (operation.Iconst (negsuc 0))
minus-one = refl

zero : plain_operation (instruction.Constant (constant.SmallInt small.Zero)) ≡ Some (operation.Iconst (pos 0))
zero = refl

one : plain_operation (instruction.Constant (constant.SmallInt small.One)) ≡ Some (operation.Iconst (pos 1))
one = refl

two : plain_operation (instruction.Constant (constant.SmallInt small.Two)) ≡ Some (operation.Iconst (pos 2))
two = refl

three : plain_operation (instruction.Constant (constant.SmallInt small.Three)) ≡ Some (operation.Iconst (pos 3))
three = refl

four : plain_operation (instruction.Constant (constant.SmallInt small.Four)) ≡ Some (operation.Iconst (pos 4))
four = refl

five : plain_operation (instruction.Constant (constant.SmallInt small.Five)) ≡ Some (operation.Iconst (pos 5))
five = refl

long-zero : plain_operation (instruction.Constant (constant.SmallLong long.Zero)) ≡ Some (operation.Lconst (pos 0))
long-zero = refl

long-one : plain_operation (instruction.Constant (constant.SmallLong long.One)) ≡ Some (operation.Lconst (pos 1))
long-one = refl

byte : plain_operation (instruction.Constant (constant.Byte (negsuc 127))) ≡ Some (operation.Iconst (negsuc 127))
byte = refl

short : plain_operation (instruction.Constant (constant.Short (negsuc 32767))) ≡ Some (operation.Iconst (negsuc 32767))
short = refl

ldc : plain_operation (instruction.Constant (constant.Int width.Narrow (pos 65536)))
    ≡ Some (operation.Iconst (pos 65536))
ldc = refl

ldc_w : plain_operation (instruction.Constant (constant.Int width.Wide (negsuc 65535)))
    ≡ Some (operation.Iconst (negsuc 65535))
ldc_w = refl

greatest-short-long : plain_operation (instruction.Constant (constant.Long (pos 2147483647)))
    ≡ Some (operation.Lconst (pos 2147483647))
greatest-short-long = refl

least-wide-long : plain_operation (instruction.Constant (constant.Long (pos 2147483648))) ≡ Some operation.Aside
least-wide-long = refl

least-short-long : plain_operation (instruction.Constant (constant.Long (negsuc 2147483647)))
    ≡ Some (operation.Lconst (negsuc 2147483647))
least-short-long = refl

greatest-wide-long : plain_operation (instruction.Constant (constant.Long (negsuc 2147483648))) ≡ Some operation.Aside
greatest-wide-long = refl

-- ---- locals

load-int-0 : plain_operation (instruction.Local (access.Load kind.Int (place.First first.Zero)))
    ≡ Some (operation.Iload 0)
load-int-0 = refl

store-int-0 : plain_operation (instruction.Local (access.Store kind.Int (place.First first.Zero)))
    ≡ Some (operation.Istore 0)
store-int-0 = refl

load-long-0 : plain_operation (instruction.Local (access.Load kind.Long (place.First first.Zero)))
    ≡ Some (operation.Lload 0)
load-long-0 = refl

store-long-0 : plain_operation (instruction.Local (access.Store kind.Long (place.First first.Zero)))
    ≡ Some (operation.Lstore 0)
store-long-0 = refl

load-ref-0 : plain_operation (instruction.Local (access.Load kind.Ref (place.First first.Zero)))
    ≡ Some (operation.Aload 0)
load-ref-0 = refl

store-ref-0 : plain_operation (instruction.Local (access.Store kind.Ref (place.First first.Zero)))
    ≡ Some (operation.Astore 0)
store-ref-0 = refl

load-int-1 : plain_operation (instruction.Local (access.Load kind.Int (place.First first.One)))
    ≡ Some (operation.Iload 1)
load-int-1 = refl

store-int-1 : plain_operation (instruction.Local (access.Store kind.Int (place.First first.One)))
    ≡ Some (operation.Istore 1)
store-int-1 = refl

load-long-1 : plain_operation (instruction.Local (access.Load kind.Long (place.First first.One)))
    ≡ Some (operation.Lload 1)
load-long-1 = refl

store-long-1 : plain_operation (instruction.Local (access.Store kind.Long (place.First first.One)))
    ≡ Some (operation.Lstore 1)
store-long-1 = refl

load-ref-1 : plain_operation (instruction.Local (access.Load kind.Ref (place.First first.One)))
    ≡ Some (operation.Aload 1)
load-ref-1 = refl

store-ref-1 : plain_operation (instruction.Local (access.Store kind.Ref (place.First first.One)))
    ≡ Some (operation.Astore 1)
store-ref-1 = refl

load-int-2 : plain_operation (instruction.Local (access.Load kind.Int (place.First first.Two)))
    ≡ Some (operation.Iload 2)
load-int-2 = refl

store-int-2 : plain_operation (instruction.Local (access.Store kind.Int (place.First first.Two)))
    ≡ Some (operation.Istore 2)
store-int-2 = refl

load-long-2 : plain_operation (instruction.Local (access.Load kind.Long (place.First first.Two)))
    ≡ Some (operation.Lload 2)
load-long-2 = refl

store-long-2 : plain_operation (instruction.Local (access.Store kind.Long (place.First first.Two)))
    ≡ Some (operation.Lstore 2)
store-long-2 = refl

load-ref-2 : plain_operation (instruction.Local (access.Load kind.Ref (place.First first.Two)))
    ≡ Some (operation.Aload 2)
load-ref-2 = refl

store-ref-2 : plain_operation (instruction.Local (access.Store kind.Ref (place.First first.Two)))
    ≡ Some (operation.Astore 2)
store-ref-2 = refl

load-int-3 : plain_operation (instruction.Local (access.Load kind.Int (place.First first.Three)))
    ≡ Some (operation.Iload 3)
load-int-3 = refl

store-int-3 : plain_operation (instruction.Local (access.Store kind.Int (place.First first.Three)))
    ≡ Some (operation.Istore 3)
store-int-3 = refl

load-long-3 : plain_operation (instruction.Local (access.Load kind.Long (place.First first.Three)))
    ≡ Some (operation.Lload 3)
load-long-3 = refl

store-long-3 : plain_operation (instruction.Local (access.Store kind.Long (place.First first.Three)))
    ≡ Some (operation.Lstore 3)
store-long-3 = refl

load-ref-3 : plain_operation (instruction.Local (access.Load kind.Ref (place.First first.Three)))
    ≡ Some (operation.Aload 3)
load-ref-3 = refl

store-ref-3 : plain_operation (instruction.Local (access.Store kind.Ref (place.First first.Three)))
    ≡ Some (operation.Astore 3)
store-ref-3 = refl

load-int-byte : plain_operation (instruction.Local (access.Load kind.Int (place.Byte 255))) ≡ Some (operation.Iload 255)
load-int-byte = refl

store-int-byte : plain_operation (instruction.Local (access.Store kind.Int (place.Byte 255)))
    ≡ Some (operation.Istore 255)
store-int-byte = refl

load-long-byte : plain_operation (instruction.Local (access.Load kind.Long (place.Byte 255)))
    ≡ Some (operation.Lload 255)
load-long-byte = refl

store-long-byte : plain_operation (instruction.Local (access.Store kind.Long (place.Byte 255)))
    ≡ Some (operation.Lstore 255)
store-long-byte = refl

load-ref-byte : plain_operation (instruction.Local (access.Load kind.Ref (place.Byte 255))) ≡ Some (operation.Aload 255)
load-ref-byte = refl

store-ref-byte : plain_operation (instruction.Local (access.Store kind.Ref (place.Byte 255)))
    ≡ Some (operation.Astore 255)
store-ref-byte = refl

load-int-wide : plain_operation (instruction.Local (access.Load kind.Int (place.Wide 65535)))
    ≡ Some (operation.Iload 65535)
load-int-wide = refl

store-int-wide : plain_operation (instruction.Local (access.Store kind.Int (place.Wide 65535)))
    ≡ Some (operation.Istore 65535)
store-int-wide = refl

load-long-wide : plain_operation (instruction.Local (access.Load kind.Long (place.Wide 65535)))
    ≡ Some (operation.Lload 65535)
load-long-wide = refl

store-long-wide : plain_operation (instruction.Local (access.Store kind.Long (place.Wide 65535)))
    ≡ Some (operation.Lstore 65535)
store-long-wide = refl

load-ref-wide : plain_operation (instruction.Local (access.Load kind.Ref (place.Wide 65535)))
    ≡ Some (operation.Aload 65535)
load-ref-wide = refl

store-ref-wide : plain_operation (instruction.Local (access.Store kind.Ref (place.Wide 65535)))
    ≡ Some (operation.Astore 65535)
store-ref-wide = refl

iinc : plain_operation (instruction.Local (access.Increment (increment.Byte 255 (negsuc 127))))
    ≡ Some (operation.Iinc 255 (negsuc 127))
iinc = refl

iinc-wide : plain_operation (instruction.Local (access.Increment (increment.Wide 256 (pos 32767))))
    ≡ Some (operation.Iinc 256 (pos 32767))
iinc-wide = refl

-- ---- the stack

pop : plain_operation (instruction.Stack stack.Pop) ≡ Some operation.Pop
pop = refl

pop2 : plain_operation (instruction.Stack stack.Pop2) ≡ Some operation.Pop2
pop2 = refl

dup : plain_operation (instruction.Stack stack.Dup) ≡ Some operation.Dup
dup = refl

dupx1 : plain_operation (instruction.Stack stack.DupX1) ≡ Some operation.DupX1
dupx1 = refl

dupx2 : plain_operation (instruction.Stack stack.DupX2) ≡ Some operation.DupX2
dupx2 = refl

dup2 : plain_operation (instruction.Stack stack.Dup2) ≡ Some operation.Dup2
dup2 = refl

dup2x1 : plain_operation (instruction.Stack stack.Dup2X1) ≡ Some operation.Dup2X1
dup2x1 = refl

dup2x2 : plain_operation (instruction.Stack stack.Dup2X2) ≡ Some operation.Dup2X2
dup2x2 = refl

swap : plain_operation (instruction.Stack stack.Swap) ≡ Some operation.Swap
swap = refl

-- ---- numbers

iadd : plain_operation (instruction.Number (computes.Binary number.Int operator.Add)) ≡ Some operation.Iadd
iadd = refl

ladd : plain_operation (instruction.Number (computes.Binary number.Long operator.Add)) ≡ Some operation.Ladd
ladd = refl

isub : plain_operation (instruction.Number (computes.Binary number.Int operator.Sub)) ≡ Some operation.Isub
isub = refl

lsub : plain_operation (instruction.Number (computes.Binary number.Long operator.Sub)) ≡ Some operation.Lsub
lsub = refl

imul : plain_operation (instruction.Number (computes.Binary number.Int operator.Mul)) ≡ Some operation.Imul
imul = refl

lmul : plain_operation (instruction.Number (computes.Binary number.Long operator.Mul)) ≡ Some operation.Lmul
lmul = refl

idiv : plain_operation (instruction.Number (computes.Binary number.Int operator.Div)) ≡ Some operation.Idiv
idiv = refl

ldiv : plain_operation (instruction.Number (computes.Binary number.Long operator.Div)) ≡ Some operation.Ldiv
ldiv = refl

irem : plain_operation (instruction.Number (computes.Binary number.Int operator.Rem)) ≡ Some operation.Irem
irem = refl

lrem : plain_operation (instruction.Number (computes.Binary number.Long operator.Rem)) ≡ Some operation.Lrem
lrem = refl

ishl : plain_operation (instruction.Number (computes.Binary number.Int operator.Shl)) ≡ Some operation.Ishl
ishl = refl

lshl : plain_operation (instruction.Number (computes.Binary number.Long operator.Shl)) ≡ Some operation.Lshl
lshl = refl

ishr : plain_operation (instruction.Number (computes.Binary number.Int operator.Shr)) ≡ Some operation.Ishr
ishr = refl

lshr : plain_operation (instruction.Number (computes.Binary number.Long operator.Shr)) ≡ Some operation.Lshr
lshr = refl

iushr : plain_operation (instruction.Number (computes.Binary number.Int operator.Ushr)) ≡ Some operation.Iushr
iushr = refl

lushr : plain_operation (instruction.Number (computes.Binary number.Long operator.Ushr)) ≡ Some operation.Lushr
lushr = refl

iand : plain_operation (instruction.Number (computes.Binary number.Int operator.And)) ≡ Some operation.Iand
iand = refl

land : plain_operation (instruction.Number (computes.Binary number.Long operator.And)) ≡ Some operation.Land
land = refl

ior : plain_operation (instruction.Number (computes.Binary number.Int operator.Or)) ≡ Some operation.Ior
ior = refl

lor : plain_operation (instruction.Number (computes.Binary number.Long operator.Or)) ≡ Some operation.Lor
lor = refl

ixor : plain_operation (instruction.Number (computes.Binary number.Int operator.Xor)) ≡ Some operation.Ixor
ixor = refl

lxor : plain_operation (instruction.Number (computes.Binary number.Long operator.Xor)) ≡ Some operation.Lxor
lxor = refl

ineg : plain_operation (instruction.Number (computes.Negate number.Int)) ≡ Some operation.Ineg
ineg = refl

lneg : plain_operation (instruction.Number (computes.Negate number.Long)) ≡ Some operation.Lneg
lneg = refl

i2l : plain_operation (instruction.Number (computes.Convert conversion.IntToLong)) ≡ Some operation.I2l
i2l = refl

l2i : plain_operation (instruction.Number (computes.Convert conversion.LongToInt)) ≡ Some operation.L2i
l2i = refl

i2b : plain_operation (instruction.Number (computes.Convert conversion.IntToByte)) ≡ Some operation.I2b
i2b = refl

i2c : plain_operation (instruction.Number (computes.Convert conversion.IntToChar)) ≡ Some operation.I2c
i2c = refl

i2s : plain_operation (instruction.Number (computes.Convert conversion.IntToShort)) ≡ Some operation.I2s
i2s = refl

lcmp : plain_operation (instruction.Number computes.CompareLongs) ≡ Some operation.Lcmp
lcmp = refl

-- ---- branches

ifeq : plain_operation (instruction.Branch (test.Zero comparison.Equal) 40) ≡ Some (operation.Ifeq 40)
ifeq = refl

ificmpeq : plain_operation (instruction.Branch (test.Ints comparison.Equal) 40) ≡ Some (operation.IfIcmpeq 40)
ificmpeq = refl

ifne : plain_operation (instruction.Branch (test.Zero comparison.NotEqual) 40) ≡ Some (operation.Ifne 40)
ifne = refl

ificmpne : plain_operation (instruction.Branch (test.Ints comparison.NotEqual) 40) ≡ Some (operation.IfIcmpne 40)
ificmpne = refl

iflt : plain_operation (instruction.Branch (test.Zero comparison.Less) 40) ≡ Some (operation.Iflt 40)
iflt = refl

ificmplt : plain_operation (instruction.Branch (test.Ints comparison.Less) 40) ≡ Some (operation.IfIcmplt 40)
ificmplt = refl

ifge : plain_operation (instruction.Branch (test.Zero comparison.GreaterOrEqual) 40) ≡ Some (operation.Ifge 40)
ifge = refl

ificmpge : plain_operation (instruction.Branch (test.Ints comparison.GreaterOrEqual) 40) ≡ Some (operation.IfIcmpge 40)
ificmpge = refl

ifgt : plain_operation (instruction.Branch (test.Zero comparison.Greater) 40) ≡ Some (operation.Ifgt 40)
ifgt = refl

ificmpgt : plain_operation (instruction.Branch (test.Ints comparison.Greater) 40) ≡ Some (operation.IfIcmpgt 40)
ificmpgt = refl

ifle : plain_operation (instruction.Branch (test.Zero comparison.LessOrEqual) 40) ≡ Some (operation.Ifle 40)
ifle = refl

ificmple : plain_operation (instruction.Branch (test.Ints comparison.LessOrEqual) 40) ≡ Some (operation.IfIcmple 40)
ificmple = refl

goto : plain_operation (instruction.Branch (test.Always width.Narrow) 40) ≡ Some (operation.Goto 40)
goto = refl

goto_w : plain_operation (instruction.Branch (test.Always width.Wide) 40) ≡ Some (operation.Goto 40)
goto_w = refl

ifacmpeq : plain_operation (instruction.Branch (test.Refs identity.Same) 40) ≡ Some (operation.IfAcmpeq 40)
ifacmpeq = refl

ifacmpne : plain_operation (instruction.Branch (test.Refs identity.Different) 40) ≡ Some (operation.IfAcmpne 40)
ifacmpne = refl

ifnull : plain_operation (instruction.Branch (test.Null identity.Same) 40) ≡ Some (operation.Ifnull 40)
ifnull = refl

ifnonnull : plain_operation (instruction.Branch (test.Null identity.Different) 40) ≡ Some (operation.Ifnonnull 40)
ifnonnull = refl

-- ---- returns

return : plain_operation (instruction.Return None) ≡ Some operation.Return
return = refl

ireturn : plain_operation (instruction.Return (Some kind.Int)) ≡ Some operation.Ireturn
ireturn = refl

lreturn : plain_operation (instruction.Return (Some kind.Long)) ≡ Some operation.Lreturn
lreturn = refl

areturn : plain_operation (instruction.Return (Some kind.Ref)) ≡ Some operation.Areturn
areturn = refl
