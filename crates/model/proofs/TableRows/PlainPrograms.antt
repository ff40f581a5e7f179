-- Programs of numbers, locals, stack operations, branches and switches, run whole.
use Rattle.std.specs.Prelude.{◌≡◌, ℤ, pos, negsuc, List, [], ◌∷◌, length, Some, None, codes, refl}
use Rattle.std.specs.Int.{int_wrap}
use Rattle.std.specs.Fmt.{digits}
use Rattle.model.specs.declared.instructions.Constant.TheVariants.{SmallInt, SmallLong, Byte}
use Rattle.model.specs.declared.instructions.SmallInt.TheVariants.{MinusOne, Zero, One, Three}
use Rattle.model.specs.declared.instructions.SmallLong.TheVariants.{One as LongOne}
use Rattle.model.specs.declared.instructions.NumberOperation.TheVariants.{Binary}
use Rattle.model.specs.declared.instructions.NumberKind.TheVariants.{Int as Ints, Long as Longs}
use Rattle.model.specs.declared.instructions.Operator.{Operator}
use Rattle.model.specs.declared.instructions.Operator.TheVariants.{Div, Rem, Shl, Ushr}
use Rattle.model.specs.declared.instructions.Comparison.TheVariants.{Less}
use Rattle.model.specs.declared.instructions.Test.TheVariants.{Ints as TwoInts}
use Rattle.model.specs.declared.instructions.FirstLocal.TheVariants.{Zero as FirstZero}
use Rattle.model.specs.declared.instructions.Local.TheVariants.{First}
use Rattle.model.specs.declared.instructions.Increment.TheVariants.{Byte as ByByte}
use Rattle.model.specs.declared.instructions.LocalAccess.TheVariants.{Load, Store, Increment}
use Rattle.model.specs.declared.instructions.StackOperation.TheVariants.{Dup, Dup2X2}
use Rattle.model.specs.declared.instructions.Instruction.TheVariants.{Nop, Constant, Local, Stack, Number, Branch}
use Rattle.model.specs.declared.instructions.Instruction.TheVariants.{TableSwitch, LookupSwitch}
use Rattle.model.specs.declared.values.Kind.TheVariants.{Int as IntKind}
use Rattle.model.specs.declared.turns.Fault.TheVariants.{WrongKind, WrongLocal, NoInstruction}
use Rattle.model.specs.ClassListings.{ClassListing}
use Rattle.model.specs.Classes.Builtin.{builtin_classes}
use Rattle.model.specs.Classes.Search.{upwards}
use Rattle.model.specs.Worlds.{opening_world}
use Rattle.model.specs.Worlds.Thread.{Ended}
use Rattle.model.specs.Turns.{refusal}
use Rattle.model.specs.Table.Next.{completion, next}
use Rattle.model.proofs.TableRows.Listings.{Sized, main_of, ldc, ldc2_w, print, printl, return, run}

abbrev iconst_m1 : Sized
iconst_m1 = (1, Constant (SmallInt MinusOne))

abbrev iconst_0 : Sized
iconst_0 = (1, Constant (SmallInt Zero))

abbrev iconst_1 : Sized
iconst_1 = (1, Constant (SmallInt One))

abbrev iconst_3 : Sized
iconst_3 = (1, Constant (SmallInt Three))

abbrev lconst_1 : Sized
lconst_1 = (1, Constant (SmallLong LongOne))

abbrev bipush : ℤ → Sized
bipush z = (2, Constant (Byte z))

abbrev int : Operator → Sized
int op = (1, Number (Binary Ints op))

abbrev long : Operator → Sized
long op = (1, Number (Binary Longs op))

-- ---- divisions and remainders: the least int by -1, and the sign of a remainder

abbrev divisions : List ClassListing
divisions = main_of 2 0 (ldc (negsuc 2147483647) ∷ iconst_m1 ∷ int Div ∷ print ∷ ldc (negsuc 2147483647) ∷ iconst_m1 ∷
    int Rem ∷ print ∷ bipush (negsuc 6) ∷ iconst_3 ∷ int Rem ∷ print ∷ return ∷ [])

divisions-output : (run 13 divisions).output ≡ codes "-2147483648\n0\n-1\n"
unfolding refusal next completion upwards builtin_classes int_wrap digits
divisions-output = refl

divisions-end : (run 13 divisions).threads ≡ Ended None ∷ []
unfolding refusal next completion upwards builtin_classes int_wrap digits
divisions-end = refl

-- a division by 0 throws, and nothing catches it
abbrev by_zero : List ClassListing
by_zero = main_of 2 0 (iconst_1 ∷ iconst_0 ∷ int Div ∷ print ∷ return ∷ [])

by_zero-end : (run 3 by_zero).threads ≡ Ended (Some (codes "java/lang/ArithmeticException")) ∷ []
unfolding refusal next completion upwards builtin_classes int_wrap digits
by_zero-end = refl

by_zero-birth : length (run 3 by_zero).objects ≡ 4
unfolding refusal next completion upwards builtin_classes int_wrap digits
by_zero-birth = refl

-- ---- shifts: by the low 5 bits of an int's count, by the low 6 of a long's

abbrev shifts : List ClassListing
shifts = main_of 3 0 (iconst_1 ∷ bipush (pos 33) ∷ int Shl ∷ print ∷ lconst_1 ∷ bipush (pos 65) ∷ long Shl ∷ printl
    ∷ iconst_m1 ∷ bipush (pos 33) ∷ int Ushr ∷ print ∷ ldc2_w (negsuc 0) ∷ bipush (pos 65) ∷ long Ushr ∷ printl ∷ return
    ∷ [])

shifts-output : (run 17 shifts).output ≡ codes "2\n2\n2147483647\n9223372036854775807\n"
unfolding refusal next completion upwards builtin_classes int_wrap digits
shifts-output = refl

shifts-end : (run 17 shifts).threads ≡ Ended None ∷ []
unfolding refusal next completion upwards builtin_classes int_wrap digits
shifts-end = refl

-- ---- a long below another one

abbrev copied_below : List ClassListing
copied_below = main_of 6 0 (ldc2_w (pos 7) ∷ ldc2_w (pos 9) ∷ (1, Stack Dup2X2) ∷ printl ∷ printl ∷ printl ∷ return
    ∷ [])

copied_below-output : (run 7 copied_below).output ≡ codes "9\n7\n9\n"
unfolding refusal next completion upwards builtin_classes int_wrap digits
copied_below-output = refl

copied_below-end : (run 7 copied_below).threads ≡ Ended None ∷ []
unfolding refusal next completion upwards builtin_classes int_wrap digits
copied_below-end = refl

-- a long is no value of one unit: F3
abbrev copied_long : List ClassListing
copied_long = main_of 6 0 (ldc2_w (pos 7) ∷ (1, Stack Dup) ∷ return ∷ [])

copied_long-fault : (run 2 copied_long).fault ≡ Some (WrongKind, 0)
unfolding refusal next completion upwards builtin_classes int_wrap digits
copied_long-fault = refl

-- ---- a local that isn't there: F4, and the frame stays

abbrev no_local : List ClassListing
no_local = main_of 1 0 ((1, Local (Load IntKind (First FirstZero))) ∷ return ∷ [])

no_local-fault : (run 1 no_local).fault ≡ Some (WrongLocal, 0)
unfolding refusal next completion upwards builtin_classes int_wrap digits
no_local-fault = refl

no_local-frames : (run 1 no_local).threads ≡ (opening_world no_local).threads
unfolding refusal next completion upwards builtin_classes int_wrap digits
no_local-frames = refl

-- ---- past the last instruction: F5, and the turns after it are refused

abbrev no_end : List ClassListing
no_end = main_of 0 0 ((1, Nop) ∷ [])

no_end-fault : (run 2 no_end).fault ≡ Some (NoInstruction, 0)
unfolding refusal next completion upwards builtin_classes int_wrap digits
no_end-fault = refl

no_end-stops : run 3 no_end ≡ run 2 no_end
unfolding refusal next completion upwards builtin_classes int_wrap digits
no_end-stops = refl

-- ---- a loop that counts to 3: its top is at pc 2

abbrev loop : List ClassListing
loop = main_of 2 1 (iconst_0 ∷ (1, Local (Store IntKind (First FirstZero))) ∷ (3, Local (Increment (ByByte 0 (pos 1))))
    ∷ (1, Local (Load IntKind (First FirstZero))) ∷ iconst_3 ∷ (3, Branch (TwoInts Less) 2)
    ∷ (1, Local (Load IntKind (First FirstZero))) ∷ print ∷ return ∷ [])

loop-output : (run 17 loop).output ≡ codes "3\n"
unfolding refusal next completion upwards builtin_classes int_wrap digits
loop-output = refl

loop-end : (run 17 loop).threads ≡ Ended None ∷ []
unfolding refusal next completion upwards builtin_classes int_wrap digits
loop-end = refl

-- ---- switches: each case prints a number and returns

abbrev cases : List Sized
cases = iconst_1 ∷ print ∷ return ∷ iconst_3 ∷ print ∷ return ∷ iconst_0 ∷ print ∷ return ∷ []

-- tableswitch of the two greatest ints, at pc 2, with a pad of one byte
abbrev by_table : ℤ → List ClassListing
by_table z = main_of 1 0
    (ldc z ∷ (22, TableSwitch (record { low = pos 2147483646; targets = 24 ∷ 29 ∷ []; default = 34 })) ∷ cases)

by_table-first : (run 5 (by_table (pos 2147483646))).output ≡ codes "1\n"
unfolding refusal next completion upwards builtin_classes int_wrap digits
by_table-first = refl

by_table-second : (run 5 (by_table (pos 2147483647))).output ≡ codes "3\n"
unfolding refusal next completion upwards builtin_classes int_wrap digits
by_table-second = refl

by_table-default : (run 5 (by_table (pos 2147483645))).output ≡ codes "0\n"
unfolding refusal next completion upwards builtin_classes int_wrap digits
by_table-default = refl

-- lookupswitch of -5 and 7, at pc 2, with a pad of one byte
abbrev by_keys : ℤ → List ClassListing
by_keys z = main_of 1 0 (ldc z ∷ (26, LookupSwitch (record { pairs = (negsuc 4, 28) ∷ (pos 7, 33) ∷ []; default = 38 }))
    ∷ cases)

by_keys-first : (run 5 (by_keys (negsuc 4))).output ≡ codes "1\n"
unfolding refusal next completion upwards builtin_classes int_wrap digits
by_keys-first = refl

by_keys-second : (run 5 (by_keys (pos 7))).output ≡ codes "3\n"
unfolding refusal next completion upwards builtin_classes int_wrap digits
by_keys-second = refl

by_keys-default : (run 5 (by_keys (pos 5))).output ≡ codes "0\n"
unfolding refusal next completion upwards builtin_classes int_wrap digits
by_keys-default = refl
