-- Worked branches: from pc 3 to 40 where they are taken, else to the next instruction, at 6. Stacks are written top
-- first.
use Rattle.std.specs.Prelude.{◌≡◌, pos, negsuc, List, [], ◌∷◌, Result, Some, None, refl}
use Rattle.model.specs.declared.values.Value.{Value}
use Rattle.model.specs.declared.values.Value.TheVariants.{Int, Long, Ref}
use Rattle.model.specs.declared.turns.Fault.TheVariants.{StackEmpty, WrongKind}
use Rattle.model.specs.declared.turns.Abrupt.{Abrupt}
use Rattle.model.specs.declared.instructions.Width.TheVariants.{Narrow, Wide}
use Rattle.model.specs.declared.instructions.Comparison.TheVariants.{Equal, NotEqual, Less, GreaterOrEqual, Greater}
use Rattle.model.specs.declared.instructions.Comparison.TheVariants.{LessOrEqual}
use Rattle.model.specs.declared.instructions.Identity.TheVariants.{Same, Different}
use Rattle.model.specs.declared.instructions.Test.{Test}
use Rattle.model.specs.declared.instructions.Test.TheVariants.{Always, Zero, Ints, Refs, Null}
use Rattle.model.specs.Frames.{Moved}
use Rattle.model.specs.Table.Branches.{branched}
use Rattle.model.proofs.TableRows.Worked.{frame, goes, fails}

abbrev on : Test → List Value → Result Moved Abrupt
on test stack = branched 6 test 40 (frame 3 [] stack 4)

abbrev taken : List Value → Result Moved Abrupt
taken stack = goes (frame 40 [] stack 4) []

abbrev passed : List Value → Result Moved Abrupt
passed stack = goes (frame 6 [] stack 4) []

abbrev zero : Value
zero = Int (pos 0)

abbrev one : Value
one = Int (pos 1)

abbrev minus_one : Value
minus_one = Int (negsuc 0)

abbrev this : Value
this = Ref (Some 3)

abbrev that : Value
that = Ref (Some 4)

abbrev null : Value
null = Ref None

-- ---- always: in two or four bytes, and whatever stands on the stack

pub goto_taken : on (Always Narrow) (one ∷ []) ≡ taken (one ∷ [])
goto_taken = refl

pub goto_w_taken : on (Always Wide) [] ≡ taken []
goto_w_taken = refl

-- ---- an int against 0, signed

pub ifeq_at_minus_one : on (Zero Equal) (minus_one ∷ this ∷ []) ≡ passed (this ∷ [])
ifeq_at_minus_one = refl

pub ifeq_at_zero : on (Zero Equal) (zero ∷ this ∷ []) ≡ taken (this ∷ [])
ifeq_at_zero = refl

pub ifeq_at_one : on (Zero Equal) (one ∷ this ∷ []) ≡ passed (this ∷ [])
ifeq_at_one = refl

pub ifne_at_minus_one : on (Zero NotEqual) (minus_one ∷ this ∷ []) ≡ taken (this ∷ [])
ifne_at_minus_one = refl

pub ifne_at_zero : on (Zero NotEqual) (zero ∷ this ∷ []) ≡ passed (this ∷ [])
ifne_at_zero = refl

pub ifne_at_one : on (Zero NotEqual) (one ∷ this ∷ []) ≡ taken (this ∷ [])
ifne_at_one = refl

pub iflt_at_minus_one : on (Zero Less) (minus_one ∷ this ∷ []) ≡ taken (this ∷ [])
iflt_at_minus_one = refl

pub iflt_at_zero : on (Zero Less) (zero ∷ this ∷ []) ≡ passed (this ∷ [])
iflt_at_zero = refl

pub iflt_at_one : on (Zero Less) (one ∷ this ∷ []) ≡ passed (this ∷ [])
iflt_at_one = refl

pub ifge_at_minus_one : on (Zero GreaterOrEqual) (minus_one ∷ this ∷ []) ≡ passed (this ∷ [])
ifge_at_minus_one = refl

pub ifge_at_zero : on (Zero GreaterOrEqual) (zero ∷ this ∷ []) ≡ taken (this ∷ [])
ifge_at_zero = refl

pub ifge_at_one : on (Zero GreaterOrEqual) (one ∷ this ∷ []) ≡ taken (this ∷ [])
ifge_at_one = refl

pub ifgt_at_minus_one : on (Zero Greater) (minus_one ∷ this ∷ []) ≡ passed (this ∷ [])
ifgt_at_minus_one = refl

pub ifgt_at_zero : on (Zero Greater) (zero ∷ this ∷ []) ≡ passed (this ∷ [])
ifgt_at_zero = refl

pub ifgt_at_one : on (Zero Greater) (one ∷ this ∷ []) ≡ taken (this ∷ [])
ifgt_at_one = refl

pub ifle_at_minus_one : on (Zero LessOrEqual) (minus_one ∷ this ∷ []) ≡ taken (this ∷ [])
ifle_at_minus_one = refl

pub ifle_at_zero : on (Zero LessOrEqual) (zero ∷ this ∷ []) ≡ taken (this ∷ [])
ifle_at_zero = refl

pub ifle_at_one : on (Zero LessOrEqual) (one ∷ this ∷ []) ≡ passed (this ∷ [])
ifle_at_one = refl

pub ifeq_of_nothing : on (Zero Equal) [] ≡ fails StackEmpty
ifeq_of_nothing = refl

pub ifeq_of_a_long : on (Zero Equal) (Long (pos 0) ∷ []) ≡ fails WrongKind
ifeq_of_a_long = refl

pub ifeq_of_null : on (Zero Equal) (null ∷ []) ≡ fails WrongKind
ifeq_of_null = refl

-- ---- two ints, signed, the right one on top

pub icmpeq_below : on (Ints Equal) (one ∷ minus_one ∷ this ∷ []) ≡ passed (this ∷ [])
icmpeq_below = refl

pub icmpeq_same : on (Ints Equal) (one ∷ one ∷ this ∷ []) ≡ taken (this ∷ [])
icmpeq_same = refl

pub icmpeq_above : on (Ints Equal) (minus_one ∷ one ∷ this ∷ []) ≡ passed (this ∷ [])
icmpeq_above = refl

pub icmpne_below : on (Ints NotEqual) (one ∷ minus_one ∷ this ∷ []) ≡ taken (this ∷ [])
icmpne_below = refl

pub icmpne_same : on (Ints NotEqual) (one ∷ one ∷ this ∷ []) ≡ passed (this ∷ [])
icmpne_same = refl

pub icmpne_above : on (Ints NotEqual) (minus_one ∷ one ∷ this ∷ []) ≡ taken (this ∷ [])
icmpne_above = refl

pub icmplt_below : on (Ints Less) (one ∷ minus_one ∷ this ∷ []) ≡ taken (this ∷ [])
icmplt_below = refl

pub icmplt_same : on (Ints Less) (one ∷ one ∷ this ∷ []) ≡ passed (this ∷ [])
icmplt_same = refl

pub icmplt_above : on (Ints Less) (minus_one ∷ one ∷ this ∷ []) ≡ passed (this ∷ [])
icmplt_above = refl

pub icmpge_below : on (Ints GreaterOrEqual) (one ∷ minus_one ∷ this ∷ []) ≡ passed (this ∷ [])
icmpge_below = refl

pub icmpge_same : on (Ints GreaterOrEqual) (one ∷ one ∷ this ∷ []) ≡ taken (this ∷ [])
icmpge_same = refl

pub icmpge_above : on (Ints GreaterOrEqual) (minus_one ∷ one ∷ this ∷ []) ≡ taken (this ∷ [])
icmpge_above = refl

pub icmpgt_below : on (Ints Greater) (one ∷ minus_one ∷ this ∷ []) ≡ passed (this ∷ [])
icmpgt_below = refl

pub icmpgt_same : on (Ints Greater) (one ∷ one ∷ this ∷ []) ≡ passed (this ∷ [])
icmpgt_same = refl

pub icmpgt_above : on (Ints Greater) (minus_one ∷ one ∷ this ∷ []) ≡ taken (this ∷ [])
icmpgt_above = refl

pub icmple_below : on (Ints LessOrEqual) (one ∷ minus_one ∷ this ∷ []) ≡ taken (this ∷ [])
icmple_below = refl

pub icmple_same : on (Ints LessOrEqual) (one ∷ one ∷ this ∷ []) ≡ taken (this ∷ [])
icmple_same = refl

pub icmple_above : on (Ints LessOrEqual) (minus_one ∷ one ∷ this ∷ []) ≡ passed (this ∷ [])
icmple_above = refl

pub icmpeq_of_nothing : on (Ints Equal) [] ≡ fails StackEmpty
icmpeq_of_nothing = refl

pub icmpeq_of_one : on (Ints Equal) (one ∷ []) ≡ fails StackEmpty
icmpeq_of_one = refl

pub icmpeq_of_a_long : on (Ints Equal) (Long (pos 0) ∷ one ∷ []) ≡ fails WrongKind
icmpeq_of_a_long = refl

pub icmpeq_over_a_reference : on (Ints Equal) (one ∷ this ∷ []) ≡ fails WrongKind
icmpeq_over_a_reference = refl

-- the top before what lies below it

pub icmpeq_of_a_reference_alone : on (Ints Equal) (this ∷ []) ≡ fails WrongKind
icmpeq_of_a_reference_alone = refl

-- ---- two references, by identity

pub acmpeq_of_one : on (Refs Same) (this ∷ this ∷ one ∷ []) ≡ taken (one ∷ [])
acmpeq_of_one = refl

pub acmpeq_of_others : on (Refs Same) (that ∷ this ∷ one ∷ []) ≡ passed (one ∷ [])
acmpeq_of_others = refl

pub acmpeq_of_null : on (Refs Same) (null ∷ this ∷ one ∷ []) ≡ passed (one ∷ [])
acmpeq_of_null = refl

pub acmpeq_of_nulls : on (Refs Same) (null ∷ null ∷ one ∷ []) ≡ taken (one ∷ [])
acmpeq_of_nulls = refl

pub acmpne_of_one : on (Refs Different) (this ∷ this ∷ one ∷ []) ≡ passed (one ∷ [])
acmpne_of_one = refl

pub acmpne_of_others : on (Refs Different) (that ∷ this ∷ one ∷ []) ≡ taken (one ∷ [])
acmpne_of_others = refl

pub acmpne_of_null : on (Refs Different) (null ∷ this ∷ one ∷ []) ≡ taken (one ∷ [])
acmpne_of_null = refl

pub acmpne_of_nulls : on (Refs Different) (null ∷ null ∷ one ∷ []) ≡ passed (one ∷ [])
acmpne_of_nulls = refl

pub acmpeq_of_null_below : on (Refs Same) (this ∷ null ∷ []) ≡ passed []
acmpeq_of_null_below = refl

pub acmpeq_of_nothing : on (Refs Same) [] ≡ fails StackEmpty
acmpeq_of_nothing = refl

pub acmpeq_of_one_alone : on (Refs Same) (this ∷ []) ≡ fails StackEmpty
acmpeq_of_one_alone = refl

pub acmpeq_of_an_int : on (Refs Same) (one ∷ this ∷ []) ≡ fails WrongKind
acmpeq_of_an_int = refl

pub acmpeq_over_an_int : on (Refs Same) (this ∷ one ∷ []) ≡ fails WrongKind
acmpeq_over_an_int = refl

-- ---- a reference against null

pub ifnull_of_null : on (Null Same) (null ∷ one ∷ []) ≡ taken (one ∷ [])
ifnull_of_null = refl

pub ifnull_of_an_object : on (Null Same) (this ∷ []) ≡ passed []
ifnull_of_an_object = refl

pub ifnonnull_of_null : on (Null Different) (null ∷ []) ≡ passed []
ifnonnull_of_null = refl

pub ifnonnull_of_an_object : on (Null Different) (this ∷ []) ≡ taken []
ifnonnull_of_an_object = refl

pub ifnull_of_nothing : on (Null Same) [] ≡ fails StackEmpty
ifnull_of_nothing = refl

pub ifnull_of_zero : on (Null Same) (zero ∷ []) ≡ fails WrongKind
ifnull_of_zero = refl
