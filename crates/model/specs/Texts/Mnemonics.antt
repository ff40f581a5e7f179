use Rattle.std.specs.Prelude.{ℕ, List, [], ◌∷◌, ◌++◌, codes, Option, None, Some}
use Rattle.model.specs.declared.instructions.Access.TheVariants as field_access
use Rattle.model.specs.declared.instructions.ClassOperation.TheVariants as class
use Rattle.model.specs.declared.instructions.Comparison.TheVariants as comparison
use Rattle.model.specs.declared.instructions.Conversion.TheVariants as conversion
use Rattle.model.specs.declared.instructions.ElementKind.TheVariants as element
use Rattle.model.specs.declared.instructions.FirstLocal.TheVariants as first
use Rattle.model.specs.declared.instructions.Identity.TheVariants as identity
use Rattle.model.specs.declared.instructions.Invocation.TheVariants as invocation
use Rattle.model.specs.declared.values.Kind.TheVariants as kind
use Rattle.model.specs.declared.instructions.Local.TheVariants as «local»
use Rattle.model.specs.declared.instructions.LocalAccess.TheVariants as access
use Rattle.model.specs.declared.mnemonics.LocalMnemonic.TheVariants as accessed
use Rattle.model.specs.declared.instructions.MonitorOperation.TheVariants as monitor
use Rattle.model.specs.declared.instructions.NumberKind.TheVariants as number_kind
use Rattle.model.specs.declared.instructions.NumberOperation.TheVariants as number
use Rattle.model.specs.declared.instructions.Operator.TheVariants as operator
use Rattle.model.specs.declared.instructions.SmallInt.TheVariants as small_int
use Rattle.model.specs.declared.instructions.SmallLong.TheVariants as small_long
use Rattle.model.specs.declared.instructions.StackOperation.TheVariants as stack
use Rattle.model.specs.declared.instructions.Test.TheVariants as test
use Rattle.model.specs.declared.instructions.Width.TheVariants as width
use Rattle.model.specs.declared.mnemonics.Mnemonic.{Mnemonic}
use Rattle.model.specs.declared.mnemonics.Mnemonic.TheVariants as mnemonic
use Rattle.model.specs.Texts.Tables.{named}

-- the mnemonics of constants (JVMS 6.5)
abbrev pub constant_mnemonics : List (List ℕ × Mnemonic)
constant_mnemonics =
    (codes "nop", mnemonic.Nop) ∷ (codes "aconst_null", mnemonic.Null) ∷ (
      codes "iconst_m1",
      mnemonic.SmallInt small_int.MinusOne,
    ) ∷
    (codes "iconst_0", mnemonic.SmallInt small_int.Zero) ∷ (codes "iconst_1", mnemonic.SmallInt small_int.One) ∷
    (codes "iconst_2", mnemonic.SmallInt small_int.Two) ∷ (codes "iconst_3", mnemonic.SmallInt small_int.Three) ∷
    (codes "iconst_4", mnemonic.SmallInt small_int.Four) ∷ (codes "iconst_5", mnemonic.SmallInt small_int.Five) ∷
    (codes "lconst_0", mnemonic.SmallLong small_long.Zero) ∷ (codes "lconst_1", mnemonic.SmallLong small_long.One)
    ∷ (codes "bipush", mnemonic.Byte) ∷
    (codes "sipush", mnemonic.Short) ∷ (codes "ldc", mnemonic.Int width.Narrow) ∷ (
      codes "ldc_w",
      mnemonic.Int width.Wide,
    ) ∷
    (codes "ldc2_w", mnemonic.Long) ∷ []

-- the mnemonics of locals
abbrev pub local_mnemonics : List (List ℕ × Mnemonic)
local_mnemonics =
    (codes "iload", mnemonic.Local (accessed.Load kind.Int)) ∷ (codes "lload", mnemonic.Local (accessed.Load kind.Long))
    ∷
    (codes "aload", mnemonic.Local (accessed.Load kind.Ref)) ∷ (
      codes "istore",
      mnemonic.Local (accessed.Store kind.Int),
    ) ∷
    (codes "lstore", mnemonic.Local (accessed.Store kind.Long)) ∷ (
      codes "astore",
      mnemonic.Local (accessed.Store kind.Ref),
    ) ∷
    (codes "iinc", mnemonic.Local accessed.Increment) ∷ (
      codes "iload_0",
      mnemonic.FirstLocal (access.Load kind.Int («local».First first.Zero)),
    ) ∷
    (codes "iload_1", mnemonic.FirstLocal (access.Load kind.Int («local».First first.One))) ∷
    (codes "iload_2", mnemonic.FirstLocal (access.Load kind.Int («local».First first.Two))) ∷
    (codes "iload_3", mnemonic.FirstLocal (access.Load kind.Int («local».First first.Three))) ∷
    (codes "lload_0", mnemonic.FirstLocal (access.Load kind.Long («local».First first.Zero))) ∷
    (codes "lload_1", mnemonic.FirstLocal (access.Load kind.Long («local».First first.One))) ∷
    (codes "lload_2", mnemonic.FirstLocal (access.Load kind.Long («local».First first.Two))) ∷
    (codes "lload_3", mnemonic.FirstLocal (access.Load kind.Long («local».First first.Three))) ∷
    (codes "aload_0", mnemonic.FirstLocal (access.Load kind.Ref («local».First first.Zero))) ∷
    (codes "aload_1", mnemonic.FirstLocal (access.Load kind.Ref («local».First first.One))) ∷
    (codes "aload_2", mnemonic.FirstLocal (access.Load kind.Ref («local».First first.Two))) ∷
    (codes "aload_3", mnemonic.FirstLocal (access.Load kind.Ref («local».First first.Three))) ∷
    (codes "istore_0", mnemonic.FirstLocal (access.Store kind.Int («local».First first.Zero))) ∷
    (codes "istore_1", mnemonic.FirstLocal (access.Store kind.Int («local».First first.One))) ∷
    (codes "istore_2", mnemonic.FirstLocal (access.Store kind.Int («local».First first.Two))) ∷
    (codes "istore_3", mnemonic.FirstLocal (access.Store kind.Int («local».First first.Three))) ∷
    (codes "lstore_0", mnemonic.FirstLocal (access.Store kind.Long («local».First first.Zero))) ∷
    (codes "lstore_1", mnemonic.FirstLocal (access.Store kind.Long («local».First first.One))) ∷
    (codes "lstore_2", mnemonic.FirstLocal (access.Store kind.Long («local».First first.Two))) ∷
    (codes "lstore_3", mnemonic.FirstLocal (access.Store kind.Long («local».First first.Three))) ∷
    (codes "astore_0", mnemonic.FirstLocal (access.Store kind.Ref («local».First first.Zero))) ∷
    (codes "astore_1", mnemonic.FirstLocal (access.Store kind.Ref («local».First first.One))) ∷
    (codes "astore_2", mnemonic.FirstLocal (access.Store kind.Ref («local».First first.Two))) ∷
    (codes "astore_3", mnemonic.FirstLocal (access.Store kind.Ref («local».First first.Three))) ∷ []

-- the mnemonics of the operand stack
abbrev pub stack_mnemonics : List (List ℕ × Mnemonic)
stack_mnemonics =
    (codes "pop", mnemonic.Stack stack.Pop) ∷ (codes "pop2", mnemonic.Stack stack.Pop2) ∷ (
      codes "dup",
      mnemonic.Stack stack.Dup,
    ) ∷
    (codes "dup_x1", mnemonic.Stack stack.DupX1) ∷ (codes "dup_x2", mnemonic.Stack stack.DupX2) ∷ (
      codes "dup2",
      mnemonic.Stack stack.Dup2,
    ) ∷
    (codes "dup2_x1", mnemonic.Stack stack.Dup2X1) ∷ (codes "dup2_x2", mnemonic.Stack stack.Dup2X2) ∷ (
      codes "swap",
      mnemonic.Stack stack.Swap,
    ) ∷ []

-- the mnemonics of operations on numbers
abbrev pub number_mnemonics : List (List ℕ × Mnemonic)
number_mnemonics =
    (codes "iadd", mnemonic.Number (number.Binary number_kind.Int operator.Add)) ∷
    (codes "isub", mnemonic.Number (number.Binary number_kind.Int operator.Sub)) ∷
    (codes "imul", mnemonic.Number (number.Binary number_kind.Int operator.Mul)) ∷
    (codes "idiv", mnemonic.Number (number.Binary number_kind.Int operator.Div)) ∷
    (codes "irem", mnemonic.Number (number.Binary number_kind.Int operator.Rem)) ∷
    (codes "ishl", mnemonic.Number (number.Binary number_kind.Int operator.Shl)) ∷
    (codes "ishr", mnemonic.Number (number.Binary number_kind.Int operator.Shr)) ∷
    (codes "iushr", mnemonic.Number (number.Binary number_kind.Int operator.Ushr)) ∷
    (codes "iand", mnemonic.Number (number.Binary number_kind.Int operator.And)) ∷
    (codes "ior", mnemonic.Number (number.Binary number_kind.Int operator.Or)) ∷
    (codes "ixor", mnemonic.Number (number.Binary number_kind.Int operator.Xor)) ∷
    (codes "ladd", mnemonic.Number (number.Binary number_kind.Long operator.Add)) ∷
    (codes "lsub", mnemonic.Number (number.Binary number_kind.Long operator.Sub)) ∷
    (codes "lmul", mnemonic.Number (number.Binary number_kind.Long operator.Mul)) ∷
    (codes "ldiv", mnemonic.Number (number.Binary number_kind.Long operator.Div)) ∷
    (codes "lrem", mnemonic.Number (number.Binary number_kind.Long operator.Rem)) ∷
    (codes "lshl", mnemonic.Number (number.Binary number_kind.Long operator.Shl)) ∷
    (codes "lshr", mnemonic.Number (number.Binary number_kind.Long operator.Shr)) ∷
    (codes "lushr", mnemonic.Number (number.Binary number_kind.Long operator.Ushr)) ∷
    (codes "land", mnemonic.Number (number.Binary number_kind.Long operator.And)) ∷
    (codes "lor", mnemonic.Number (number.Binary number_kind.Long operator.Or)) ∷
    (codes "lxor", mnemonic.Number (number.Binary number_kind.Long operator.Xor)) ∷ (
      codes "ineg",
      mnemonic.Number (number.Negate number_kind.Int),
    ) ∷
    (codes "lneg", mnemonic.Number (number.Negate number_kind.Long)) ∷ (
      codes "i2l",
      mnemonic.Number (number.Convert conversion.IntToLong),
    ) ∷
    (codes "l2i", mnemonic.Number (number.Convert conversion.LongToInt)) ∷ (
      codes "i2b",
      mnemonic.Number (number.Convert conversion.IntToByte),
    ) ∷
    (codes "i2c", mnemonic.Number (number.Convert conversion.IntToChar)) ∷ (
      codes "i2s",
      mnemonic.Number (number.Convert conversion.IntToShort),
    ) ∷
    (codes "lcmp", mnemonic.Number number.CompareLongs) ∷ []

-- the mnemonics of branches
abbrev pub branch_mnemonics : List (List ℕ × Mnemonic)
branch_mnemonics =
    (codes "ifeq", mnemonic.Branch (test.Zero comparison.Equal)) ∷ (
      codes "ifne",
      mnemonic.Branch (test.Zero comparison.NotEqual),
    ) ∷
    (codes "iflt", mnemonic.Branch (test.Zero comparison.Less)) ∷ (
      codes "ifge",
      mnemonic.Branch (test.Zero comparison.GreaterOrEqual),
    ) ∷
    (codes "ifgt", mnemonic.Branch (test.Zero comparison.Greater)) ∷ (
      codes "ifle",
      mnemonic.Branch (test.Zero comparison.LessOrEqual),
    ) ∷
    (codes "if_icmpeq", mnemonic.Branch (test.Ints comparison.Equal)) ∷ (
      codes "if_icmpne",
      mnemonic.Branch (test.Ints comparison.NotEqual),
    ) ∷
    (codes "if_icmplt", mnemonic.Branch (test.Ints comparison.Less)) ∷ (
      codes "if_icmpge",
      mnemonic.Branch (test.Ints comparison.GreaterOrEqual),
    ) ∷
    (codes "if_icmpgt", mnemonic.Branch (test.Ints comparison.Greater)) ∷ (
      codes "if_icmple",
      mnemonic.Branch (test.Ints comparison.LessOrEqual),
    ) ∷
    (codes "if_acmpeq", mnemonic.Branch (test.Refs identity.Same)) ∷ (
      codes "if_acmpne",
      mnemonic.Branch (test.Refs identity.Different),
    ) ∷
    (codes "ifnull", mnemonic.Branch (test.Null identity.Same)) ∷ (
      codes "ifnonnull",
      mnemonic.Branch (test.Null identity.Different),
    ) ∷
    (codes "goto", mnemonic.Branch (test.Always width.Narrow)) ∷ (
      codes "goto_w",
      mnemonic.Branch (test.Always width.Wide),
    ) ∷ []

-- the mnemonics of calls and returns
abbrev pub call_mnemonics : List (List ℕ × Mnemonic)
call_mnemonics =
    (codes "invokevirtual", mnemonic.Invoke invocation.Virtual) ∷ (
      codes "invokespecial",
      mnemonic.Invoke
          invocation.Special,
    ) ∷
    (codes "invokestatic", mnemonic.Invoke invocation.Static) ∷ (codes "invokeinterface", mnemonic.InvokeInterface) ∷
    (codes "ireturn", mnemonic.Return (Some kind.Int)) ∷ (codes "lreturn", mnemonic.Return (Some kind.Long)) ∷
    (codes "areturn", mnemonic.Return (Some kind.Ref)) ∷ (codes "return", mnemonic.Return None) ∷ []

-- the mnemonics of fields, objects and monitors
abbrev pub object_mnemonics : List (List ℕ × Mnemonic)
object_mnemonics =
    (codes "getstatic", mnemonic.Static field_access.Get) ∷ (codes "putstatic", mnemonic.Static field_access.Put) ∷
    (codes "getfield", mnemonic.Field field_access.Get) ∷ (codes "putfield", mnemonic.Field field_access.Put) ∷
    (codes "new", mnemonic.Class class.New) ∷ (codes "checkcast", mnemonic.Class class.CheckCast) ∷
    (codes "instanceof", mnemonic.Class class.InstanceOf) ∷ (codes "athrow", mnemonic.Throw) ∷
    (codes "monitorenter", mnemonic.Monitor monitor.Enter) ∷ (codes "monitorexit", mnemonic.Monitor monitor.Exit) ∷ []

-- the mnemonics of arrays
abbrev pub array_mnemonics : List (List ℕ × Mnemonic)
array_mnemonics =
    (codes "newarray", mnemonic.NewArray) ∷ (codes "anewarray", mnemonic.NewArrayOf) ∷ (
      codes "arraylength",
      mnemonic.ArrayLength,
    ) ∷
    (codes "iaload", mnemonic.ArrayLoad element.Int) ∷ (codes "laload", mnemonic.ArrayLoad element.Long) ∷
    (codes "aaload", mnemonic.ArrayLoad element.Ref) ∷ (codes "baload", mnemonic.ArrayLoad element.Byte) ∷
    (codes "caload", mnemonic.ArrayLoad element.Char) ∷ (codes "saload", mnemonic.ArrayLoad element.Short) ∷
    (codes "iastore", mnemonic.ArrayStore element.Int) ∷ (codes "lastore", mnemonic.ArrayStore element.Long) ∷
    (codes "aastore", mnemonic.ArrayStore element.Ref) ∷ (codes "bastore", mnemonic.ArrayStore element.Byte) ∷
    (codes "castore", mnemonic.ArrayStore element.Char) ∷ (codes "sastore", mnemonic.ArrayStore element.Short) ∷ []

-- what a word says as a mnemonic
unfoldable pub mnemonic_of : List ℕ → Option Mnemonic
mnemonic_of word = named (constant_mnemonics ++ local_mnemonics ++ stack_mnemonics ++ number_mnemonics
    ++ branch_mnemonics ++ call_mnemonics ++ object_mnemonics ++ array_mnemonics) word
