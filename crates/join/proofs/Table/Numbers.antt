use Rattle.std.proofs.Common.{◌≡◌, ℕ, ℤ, List, [], ◌∷◌, map, drop, Option, Some, None, Result, Ok, Err, refl, ◌∙◌, ap}
use Rattle.std.proofs.lemmas.List.{drop-map}
use Rattle.model.specs.declared.instructions.NumberKind.{NumberKind}
use Rattle.model.specs.declared.instructions.NumberKind.TheVariants.{Int as Ints, Long as Longs}
use Rattle.model.specs.declared.instructions.Operator.{Operator}
use Rattle.model.specs.declared.instructions.Operator.TheVariants.{Add, Sub, Mul, Div, Rem, Shl, Shr, Ushr, And, Or}
use Rattle.model.specs.declared.instructions.Operator.TheVariants.{Xor}
use Rattle.model.specs.declared.instructions.Conversion.{Conversion}
use Rattle.model.specs.declared.instructions.NumberOperation.{NumberOperation}
use Rattle.model.specs.declared.instructions.NumberOperation.TheVariants.{Binary, Negate, Convert, CompareLongs}
use Rattle.model.specs.declared.turns.Fault.{Fault}
use Rattle.model.specs.declared.values.Value.{Value}
use Rattle.model.specs.declared.values.Value.TheVariants.{Int, Long}
use Rattle.model.specs.Arithmetic.{conversion_result}
use Rattle.model.specs.Frames.{Frame, two_ints_on, two_longs_on, count_and_long_on, replaced, replaced_if_room}
use Rattle.model.specs.Table.Numbers.{number_value, operands_of, operand_of, operated, binary_on, negated_on}
use Rattle.model.specs.Table.Numbers.{source_kind, target_kind, converted_on, compared_on, number}
use Rattle.join.specs.Naming.{Naming, named_value, named_frame, named_moved, named_result}
use Rattle.join.proofs.Naming.{int_on_named, long_on_named, replaced_named, if_room_named}

-- numbers come to the same under a naming: they hold no births

module _ (h : Naming) where
  number_same : (kind : NumberKind) (z : ℤ) → named_value h (number_value kind z) ≡ number_value kind z
  number_same Ints z = refl
  number_same Longs z = refl

  two_ints_named : (stack : List Value) → two_ints_on (map (named_value h) stack) ≡ two_ints_on stack
  two_ints_named stack = rw (int_on_named h stack, drop-map (named_value h) 1 stack, int_on_named h (drop 1 stack)) refl

  two_longs_named : (stack : List Value) → two_longs_on (map (named_value h) stack) ≡ two_longs_on stack
  two_longs_named stack = rw (long_on_named h stack, drop-map (named_value h) 1 stack, long_on_named h (drop 1 stack))
      refl

  count_named : (stack : List Value) → count_and_long_on (map (named_value h) stack) ≡ count_and_long_on stack
  count_named stack = rw (int_on_named h stack, drop-map (named_value h) 1 stack, long_on_named h (drop 1 stack)) refl

  operands_named : (kind : NumberKind) (op : Operator) (stack : List Value)
      → operands_of kind op (map (named_value h) stack) ≡ operands_of kind op stack
  operands_named Ints op stack = two_ints_named stack
  operands_named Longs Shl stack = count_named stack
  operands_named Longs Shr stack = count_named stack
  operands_named Longs Ushr stack = count_named stack
  operands_named Longs Add stack = two_longs_named stack
  operands_named Longs Sub stack = two_longs_named stack
  operands_named Longs Mul stack = two_longs_named stack
  operands_named Longs Div stack = two_longs_named stack
  operands_named Longs Rem stack = two_longs_named stack
  operands_named Longs And stack = two_longs_named stack
  operands_named Longs Or stack = two_longs_named stack
  operands_named Longs Xor stack = two_longs_named stack

  operand_named : (kind : NumberKind) (stack : List Value) → operand_of kind (map (named_value h) stack)
      ≡ operand_of kind stack
  operand_named Ints stack = int_on_named h stack
  operand_named Longs stack = long_on_named h stack

  put_named : (next : ℕ) (f : Frame) (n : ℕ) (kind : NumberKind) (z : ℤ)
      → replaced next (named_frame h f) n (number_value kind z ∷ [])
      ≡ named_moved h (replaced next f n (number_value kind z ∷ []))
  put_named next f n Ints z = replaced_named h next f n (Int z ∷ [])
  put_named next f n Longs z = replaced_named h next f n (Long z ∷ [])

  operated_named : (next : ℕ) (f : Frame) (kind : NumberKind) (o : Option ℤ) → operated next (named_frame h f) kind o
      ≡ named_result h (operated next f kind o)
  operated_named next f kind None = refl
  operated_named next f kind (Some z) = ap Ok (put_named next f 2 kind z)

  binary_named : (next : ℕ) (f : Frame) (kind : NumberKind) (op : Operator) (r : Result (ℤ × ℤ) Fault)
      → binary_on next (named_frame h f) kind op r ≡ named_result h (binary_on next f kind op r)
  binary_named next f kind op (Err e) = refl
  binary_named next f kind op (Ok p) = operated_named next f kind _

  negated_named : (next : ℕ) (f : Frame) (kind : NumberKind) (r : Result ℤ Fault)
      → negated_on next (named_frame h f) kind r ≡ named_result h (negated_on next f kind r)
  negated_named next f kind (Err e) = refl
  negated_named next f kind (Ok z) = ap Ok (put_named next f 1 kind _)

  converted_to : (next : ℕ) (f : Frame) (kind : NumberKind) (z : ℤ)
      → replaced_if_room next (named_frame h f) 1 (number_value kind z ∷ [])
      ≡ named_result h (replaced_if_room next f 1 (number_value kind z ∷ []))
  converted_to next f Ints z = if_room_named h next f 1 (Int z ∷ [])
  converted_to next f Longs z = if_room_named h next f 1 (Long z ∷ [])

  converted_named : (next : ℕ) (f : Frame) (c : Conversion) (r : Result ℤ Fault)
      → converted_on next (named_frame h f) c r ≡ named_result h (converted_on next f c r)
  converted_named next f c (Err e) = refl
  converted_named next f c (Ok z) = converted_to next f (target_kind c) (conversion_result c z)

  compared_named : (next : ℕ) (f : Frame) (r : Result (ℤ × ℤ) Fault) → compared_on next (named_frame h f) r
      ≡ named_result h (compared_on next f r)
  compared_named next f (Err e) = refl
  compared_named next f (Ok p) = ap Ok (put_named next f 2 Ints _)

  pub number_named : (next : ℕ) (operation : NumberOperation) (f : Frame) → number next operation (named_frame h f)
      ≡ named_result h (number next operation f)
  number_named next (Binary kind op) f = ap (binary_on next (named_frame h f) kind op) (operands_named kind op f.stack)
      ∙ binary_named next f kind op _
  number_named next (Negate kind) f = ap (negated_on next (named_frame h f) kind) (operand_named kind f.stack)
      ∙ negated_named next f kind _
  number_named next (Convert c) f = ap (converted_on next (named_frame h f) c) (operand_named (source_kind c) f.stack)
      ∙ converted_named next f c _
  number_named next CompareLongs f = ap (compared_on next (named_frame h f)) (two_longs_named f.stack)
      ∙ compared_named next f _
