-- what a plain step comes to in the instruction table
use Rattle.std.proofs.Common.{[], ◌≡◌, ◌≢◌, ℕ, ℤ, Bool, true, false, List, Option, Some, None, Result, Ok, Err, refl}
use Rattle.std.proofs.Common.{ap, sym, subst, ◌∙◌, cond}
use Rattle.model.specs.declared.values.Kind.{Kind}
use Rattle.model.specs.declared.values.Kind.TheVariants as kind
use Rattle.model.specs.declared.instructions.Comparison.TheVariants as comparison
use Rattle.model.specs.declared.instructions.Constant.{Constant}
use Rattle.model.specs.declared.instructions.Constant.TheVariants as constant
use Rattle.model.specs.declared.instructions.Conversion.TheVariants as conversion
use Rattle.model.specs.declared.instructions.Identity.TheVariants as identity
use Rattle.model.specs.declared.instructions.Instruction.TheVariants as instruction
use Rattle.model.specs.declared.instructions.LocalAccess.{LocalAccess}
use Rattle.model.specs.declared.instructions.LocalAccess.TheVariants as access
use Rattle.model.specs.declared.instructions.NumberKind.TheVariants as number
use Rattle.model.specs.declared.instructions.NumberOperation.{NumberOperation}
use Rattle.model.specs.declared.instructions.NumberOperation.TheVariants as computes
use Rattle.model.specs.declared.instructions.Operator.TheVariants as operator
use Rattle.model.specs.declared.instructions.StackOperation.{StackOperation}
use Rattle.model.specs.declared.instructions.StackOperation.TheVariants as stack
use Rattle.model.specs.declared.instructions.Test.{Test}
use Rattle.model.specs.declared.instructions.Test.TheVariants as test
use Rattle.model.specs.declared.turns.Abrupt.{Abrupt}
use Rattle.model.specs.Frames.{Frame, Moved, replaced, with_running}
use Rattle.model.specs.Worlds.{with_thread}
use Rattle.model.specs.Worlds.Thread.{Live}
use Rattle.model.specs.Completions.{Completion, Site, frames_in, completes, completes_abruptly}
use Rattle.model.specs.Completions.Completion.{Goes}
use Rattle.model.specs.Table.Branches.{branched}
use Rattle.model.specs.Table.Constants.{constant as pushed}
use Rattle.model.specs.Table.Locals.{local as accessed}
use Rattle.model.specs.Table.Numbers.{number as computed}
use Rattle.model.specs.Table.Stacks.{rearranged}
use Rattle.plain_steps.specs.Plain.{is_plain}
use Rattle.model.specs.Table.Next.{Listed, by_family}
use Rattle.linking.specs.declared.operations.Operation.{Operation}
use Rattle.linking.specs.declared.operations.Operation.TheVariants.{Aside, AconstNull, Iconst, Lconst, Nop}
use Rattle.linking.specs.PlainOperations.{plain_operation, is_32_bits, constant_operation, local_operation}
use Rattle.linking.specs.PlainOperations.{stack_operation, number_operation, branch_operation, return_operation}
use Rattle.plain_steps.specs.PlainMoves.{plain_move, family_move}
use Rattle.plain_steps.specs.Reported.{reported_with, moved_with}

-- ---- the operation of an instruction moves the running frame as the table's family does

module _ (next : ℕ) (f : Frame) where
  abbrev Moves : Operation → Option (Result Moved Abrupt) → Type 0
  Moves op m = plain_move next op f ≡ m

  long_moves : (z : ℤ) (b : Bool) → cond b (Lconst z) Aside ≢ Aside
      → Moves (cond b (Lconst z) Aside) (Some (pushed next (constant.Long z) f))
  unfolding plain_move
  long_moves z true direct = refl
  long_moves z false direct = absurd (direct refl)

  constant_moves : (c : Constant ℤ ℤ) → constant_operation c ≢ Aside
      → Moves (constant_operation c) (Some (pushed next c f))
  unfolding plain_move
  constant_moves constant.Null direct = refl
  constant_moves (constant.SmallInt n) direct = refl
  constant_moves (constant.SmallLong n) direct = refl
  constant_moves (constant.Byte z) direct = refl
  constant_moves (constant.Short z) direct = refl
  constant_moves (constant.Int width z) direct = refl
  constant_moves (constant.Long z) direct = long_moves z (is_32_bits z) direct

  local_moves : (a : LocalAccess) → Moves (local_operation a) (Some (accessed next a f))
  unfolding plain_move
  local_moves (access.Load kind.Int place) = refl
  local_moves (access.Load kind.Long place) = refl
  local_moves (access.Load kind.Ref place) = refl
  local_moves (access.Store kind.Int place) = refl
  local_moves (access.Store kind.Long place) = refl
  local_moves (access.Store kind.Ref place) = refl
  local_moves (access.Increment i) = refl

  stack_moves : (op : StackOperation) → Moves (stack_operation op) (Some (rearranged next op f))
  unfolding plain_move
  stack_moves stack.Pop = refl
  stack_moves stack.Pop2 = refl
  stack_moves stack.Dup = refl
  stack_moves stack.DupX1 = refl
  stack_moves stack.DupX2 = refl
  stack_moves stack.Dup2 = refl
  stack_moves stack.Dup2X1 = refl
  stack_moves stack.Dup2X2 = refl
  stack_moves stack.Swap = refl

  number_moves : (op : NumberOperation) → Moves (number_operation op) (Some (computed next op f))
  unfolding plain_move
  number_moves (computes.Binary number.Int operator.Add) = refl
  number_moves (computes.Binary number.Int operator.Sub) = refl
  number_moves (computes.Binary number.Int operator.Mul) = refl
  number_moves (computes.Binary number.Int operator.Div) = refl
  number_moves (computes.Binary number.Int operator.Rem) = refl
  number_moves (computes.Binary number.Int operator.Shl) = refl
  number_moves (computes.Binary number.Int operator.Shr) = refl
  number_moves (computes.Binary number.Int operator.Ushr) = refl
  number_moves (computes.Binary number.Int operator.And) = refl
  number_moves (computes.Binary number.Int operator.Or) = refl
  number_moves (computes.Binary number.Int operator.Xor) = refl
  number_moves (computes.Binary number.Long operator.Add) = refl
  number_moves (computes.Binary number.Long operator.Sub) = refl
  number_moves (computes.Binary number.Long operator.Mul) = refl
  number_moves (computes.Binary number.Long operator.Div) = refl
  number_moves (computes.Binary number.Long operator.Rem) = refl
  number_moves (computes.Binary number.Long operator.Shl) = refl
  number_moves (computes.Binary number.Long operator.Shr) = refl
  number_moves (computes.Binary number.Long operator.Ushr) = refl
  number_moves (computes.Binary number.Long operator.And) = refl
  number_moves (computes.Binary number.Long operator.Or) = refl
  number_moves (computes.Binary number.Long operator.Xor) = refl
  number_moves (computes.Negate number.Int) = refl
  number_moves (computes.Negate number.Long) = refl
  number_moves (computes.Convert conversion.IntToLong) = refl
  number_moves (computes.Convert conversion.LongToInt) = refl
  number_moves (computes.Convert conversion.IntToByte) = refl
  number_moves (computes.Convert conversion.IntToChar) = refl
  number_moves (computes.Convert conversion.IntToShort) = refl
  number_moves computes.CompareLongs = refl

  branch_moves : (t : Test) (target : ℕ) → Moves (branch_operation t target) (Some (branched next t target f))
  unfolding plain_move
  branch_moves (test.Always width) target = refl
  branch_moves (test.Zero comparison.Equal) target = refl
  branch_moves (test.Zero comparison.NotEqual) target = refl
  branch_moves (test.Zero comparison.Less) target = refl
  branch_moves (test.Zero comparison.GreaterOrEqual) target = refl
  branch_moves (test.Zero comparison.Greater) target = refl
  branch_moves (test.Zero comparison.LessOrEqual) target = refl
  branch_moves (test.Ints comparison.Equal) target = refl
  branch_moves (test.Ints comparison.NotEqual) target = refl
  branch_moves (test.Ints comparison.Less) target = refl
  branch_moves (test.Ints comparison.GreaterOrEqual) target = refl
  branch_moves (test.Ints comparison.Greater) target = refl
  branch_moves (test.Ints comparison.LessOrEqual) target = refl
  branch_moves (test.Refs identity.Same) target = refl
  branch_moves (test.Refs identity.Different) target = refl
  branch_moves (test.Null identity.Same) target = refl
  branch_moves (test.Null identity.Different) target = refl

  return_moves : (k : Option Kind) → Moves (return_operation k) None
  unfolding plain_move
  return_moves None = refl
  return_moves (Some kind.Int) = refl
  return_moves (Some kind.Long) = refl
  return_moves (Some kind.Ref) = refl

  by_its_operation : (o op : Operation) (m : Option (Result Moved Abrupt)) → (o ≢ Aside → Moves o m) → Some o ≡ Some op
      → op ≢ Aside → Moves op m
  by_its_operation o op m moves is direct =
      let same : o ≡ op = cc in
      subst (λ x. Moves x m) same (moves (λ e. direct (sym same ∙ e)))

  -- where an instruction has a plain operation that doesn't stand aside, the operation's move is the family's; a return
  -- has none
  pub family_moves : (i : Listed) (op : Operation) → plain_operation i ≡ Some op → op ≢ Aside → plain_move next op f
      ≡ family_move next i f
  unfolding plain_move
  family_moves instruction.Nop op = by_its_operation _ op _ (λ direct. refl)
  family_moves (instruction.Constant c) op = by_its_operation (constant_operation c) op _ (constant_moves c)
  family_moves (instruction.Local a) op = by_its_operation (local_operation a) op _ (λ direct. local_moves a)
  family_moves (instruction.Stack s) op = by_its_operation (stack_operation s) op _ (λ direct. stack_moves s)
  family_moves (instruction.Number n) op = by_its_operation (number_operation n) op _ (λ direct. number_moves n)
  family_moves (instruction.Branch t target) op = by_its_operation (branch_operation t target) op _
      (λ direct. branch_moves t target)
  family_moves (instruction.TableSwitch table) op = by_its_operation Aside op _ (λ direct. absurd (direct refl))
  family_moves (instruction.LookupSwitch lookup) op = by_its_operation Aside op _ (λ direct. absurd (direct refl))
  family_moves (instruction.Return k) op = by_its_operation (return_operation k) op _ (λ direct. return_moves k)
  family_moves (instruction.Static a member) op = λ is direct. absurd (cc is)
  family_moves (instruction.Field a member) op = λ is direct. absurd (cc is)
  family_moves (instruction.Array a) op = λ is direct. absurd (cc is)
  family_moves (instruction.Class c name) op = λ is direct. absurd (cc is)
  family_moves (instruction.Invoke i member) op = λ is direct. absurd (cc is)
  family_moves instruction.Throw op = λ is direct. absurd (cc is)
  family_moves (instruction.Monitor m) op = λ is direct. absurd (cc is)

  -- a plain instruction's operation stands whole in its step, and moves the frame as its family does
  pub direct_move : (i : Listed) → is_plain i ≡ true → (op : Operation) × (m : Result Moved Abrupt)
      × (plain_operation i ≡ Some op) × (plain_move next op f ≡ Some m)
  unfolding plain_move
  direct_move instruction.Nop e = (Nop, Ok (replaced next f 0 []), refl, refl)
  direct_move (instruction.Constant constant.Null) e = (AconstNull, pushed next constant.Null f, refl, refl)
  direct_move (instruction.Constant (constant.SmallInt n)) e = (
    constant_operation (constant.SmallInt n),
    pushed next (constant.SmallInt n) f,
    refl,
    refl,
  )
  direct_move (instruction.Constant (constant.SmallLong n)) e = (
    constant_operation (constant.SmallLong n),
    pushed next (constant.SmallLong n) f,
    refl,
    refl,
  )
  direct_move (instruction.Constant (constant.Byte z)) e = (Iconst z, pushed next (constant.Byte z) f, refl, refl)
  direct_move (instruction.Constant (constant.Short z)) e = (Iconst z, pushed next (constant.Short z) f, refl, refl)
  direct_move (instruction.Constant (constant.Int width z)) e = (
    Iconst z,
    pushed next (constant.Int width z) f,
    refl,
    refl,
  )
  direct_move (instruction.Constant (constant.Long z)) e = cc
  direct_move (instruction.Local a) e = (local_operation a, accessed next a f, refl, local_moves a)
  direct_move (instruction.Stack s) e = (stack_operation s, rearranged next s f, refl, stack_moves s)
  direct_move (instruction.Number n) e = (number_operation n, computed next n f, refl, number_moves n)
  direct_move (instruction.Branch t target) e = (
    branch_operation t target,
    branched next t target f,
    refl,
    branch_moves t target,
  )
  direct_move (instruction.TableSwitch table) e = cc
  direct_move (instruction.LookupSwitch lookup) e = cc
  direct_move (instruction.Return k) e = cc
  direct_move (instruction.Static a member) e = cc
  direct_move (instruction.Field a member) e = cc
  direct_move (instruction.Array a) e = cc
  direct_move (instruction.Class c name) e = cc
  direct_move (instruction.Invoke i member) e = cc
  direct_move instruction.Throw e = cc
  direct_move (instruction.Monitor m) e = cc

  -- what has a move here doesn't stand aside
  moves_here : (op : Operation) (m : Result Moved Abrupt) → plain_move next op f ≡ Some m → op ≢ Aside
  unfolding plain_move
  moves_here op m is e = let aside : plain_move next Aside f ≡ Some m = subst (λ x. plain_move next x f ≡ Some m) e is
      in absurd (cc aside)

-- the table's completion of an instruction is its family's move
pub by_family-moved : (s : Site) (i : Listed) (m : Result Moved Abrupt) → family_move s.next i s.frame ≡ Some m
    → by_family s i ≡ completes s m
by_family-moved s instruction.Nop m is = cc
by_family-moved s (instruction.Constant c) m is = cc
by_family-moved s (instruction.Local a) m is = cc
by_family-moved s (instruction.Stack op) m is = cc
by_family-moved s (instruction.Number op) m is = cc
by_family-moved s (instruction.Branch t target) m is = cc
by_family-moved s (instruction.TableSwitch table) m is = cc
by_family-moved s (instruction.LookupSwitch lookup) m is = cc
by_family-moved s (instruction.Return k) m is = cc
by_family-moved s (instruction.Static a member) m is = cc
by_family-moved s (instruction.Field a member) m is = cc
by_family-moved s (instruction.Array op) m is = cc
by_family-moved s (instruction.Class op name) m is = cc
by_family-moved s (instruction.Invoke invocation member) m is = cc
by_family-moved s instruction.Throw m is = cc
by_family-moved s (instruction.Monitor op) m is = cc

-- an instruction whose operation is plain comes to its move of the running frame
pub by_family-plain : (s : Site) (i : Listed) (op : Operation) (m : Result Moved Abrupt) → plain_operation i ≡ Some op
    → plain_move s.next op s.frame ≡ Some m → by_family s i ≡ completes s m
by_family-plain s i op m plain is =
    by_family-moved s i m (sym (family_moves s.next s.frame i op plain (moves_here s.next s.frame op m is)) ∙ is)

-- ---- what a step tells

-- what a step tells is what its move comes to
pub completes-done : (s : Site) (after : List Frame) (written : List ℕ) (m : Result Moved Abrupt)
    → reported_with (Ok written) after ≡ moved_with (frames_in s) m → completes s m
    ≡ Goes (with_thread s.world s.thread (Live after)) written
completes-done s after written (Ok moved) is =
    let pair : List Frame × List ℕ = (with_running (frames_in s) moved.frame, moved.writes) in
    let same : pair ≡ (after, written) = cc in
    let going : List Frame × List ℕ → Completion = λ p. Goes (with_thread s.world s.thread (Live p.0)) p.1 in
    ap going same
completes-done s after written (Err abrupt) is = cc

pub completes-abrupt : (s : Site) (after : List Frame) (e : Abrupt) (m : Result Moved Abrupt)
    → reported_with (Err e) after ≡ moved_with (frames_in s) m → completes s m ≡ completes_abruptly e
completes-abrupt s after e (Ok moved) is = cc
completes-abrupt s after e (Err abrupt) is = ap completes_abruptly (same abrupt e is) where
  same : (a b : Abrupt) → reported_with (Err b) after ≡ moved_with (frames_in s) (Err a) → a ≡ b
  same a b is = cc
