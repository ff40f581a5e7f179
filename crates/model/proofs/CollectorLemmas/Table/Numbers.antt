use Rattle.std.proofs.Common.{ℕ, ℤ, [], ◌∷◌, Option, Some, None, Result, Ok, Err, map}
use Rattle.model.specs.declared.instructions.NumberKind.{NumberKind}
use Rattle.model.specs.declared.instructions.NumberKind.TheVariants.{Int as Ints, Long as Longs}
use Rattle.model.specs.declared.instructions.NumberOperation.{NumberOperation}
use Rattle.model.specs.declared.instructions.NumberOperation.TheVariants.{Binary, Negate, Convert, CompareLongs}
use Rattle.model.specs.declared.instructions.Operator.{Operator}
use Rattle.model.specs.declared.instructions.Conversion.{Conversion}
use Rattle.model.specs.declared.turns.Fault.{Fault}
use Rattle.model.specs.Arithmetic.{width_of, operator_result, negation, conversion_result, order_of}
use Rattle.model.specs.Frames.{Frame, two_longs_on, replaced}
use Rattle.model.specs.Worlds.{World}
use Rattle.model.specs.Table.Numbers.{number, number_value, operands_of, operand_of, operated, binary_on, negated_on}
use Rattle.model.specs.Table.Numbers.{source_kind, target_kind, converted_on, compared_on}
use Rattle.model.specs.Collector.Places.{ref_of, Reach}
use Rattle.model.specs.Collector.Moves.{ResultMoves}
use Rattle.model.proofs.CollectorLemmas.Moving.{AllMay}
use Rattle.model.proofs.CollectorLemmas.Stepping.{replaced_lawful, if_room_lawful}

-- a number is no birth
number_may : (w : World) (kind : NumberKind) (z : ℤ) → AllMay (Reach w) (map ref_of (number_value kind z ∷ []))
number_may w Ints z = (λ b e. absurd (cc), tt)
number_may w Longs z = (λ b e. absurd (cc), tt)

number_replaced : (w : World) (next : ℕ) (f : Frame) (n : ℕ) (kind : NumberKind) (z : ℤ)
    → ResultMoves w f (Ok (replaced next f n (number_value kind z ∷ [])))
number_replaced w next f n kind z = replaced_lawful w next f n (number_value kind z ∷ []) (number_may w kind z)

operated_lawful : (w : World) (next : ℕ) (f : Frame) (kind : NumberKind) (r : Option ℤ)
    → ResultMoves w f (operated next f kind r)
operated_lawful w next f kind (Some z) = number_replaced w next f 2 kind z
operated_lawful w next f kind None = tt

binary_lawful : (w : World) (next : ℕ) (f : Frame) (kind : NumberKind) (op : Operator) (r : Result (ℤ × ℤ) Fault)
    → ResultMoves w f (binary_on next f kind op r)
binary_lawful w next f kind op (Err e) = tt
binary_lawful w next f kind op (Ok operands) = operated_lawful w next f kind
    (operator_result (width_of kind) op operands.1 operands.0)

negated_lawful : (w : World) (next : ℕ) (f : Frame) (kind : NumberKind) (r : Result ℤ Fault)
    → ResultMoves w f (negated_on next f kind r)
negated_lawful w next f kind (Err e) = tt
negated_lawful w next f kind (Ok z) = number_replaced w next f 1 kind (negation (width_of kind) z)

converted_lawful : (w : World) (next : ℕ) (f : Frame) (c : Conversion) (r : Result ℤ Fault)
    → ResultMoves w f (converted_on next f c r)
converted_lawful w next f c (Err e) = tt
converted_lawful w next f c (Ok z) = if_room_lawful w next f 1 (number_value (target_kind c) (conversion_result c z)
    ∷ []) (number_may w (target_kind c) (conversion_result c z))

compared_lawful : (w : World) (next : ℕ) (f : Frame) (r : Result (ℤ × ℤ) Fault) → ResultMoves w f (compared_on next f r)
compared_lawful w next f (Err e) = tt
compared_lawful w next f (Ok operands) = number_replaced w next f 2 Ints (order_of operands.1 operands.0)

pub number_lawful : (w : World) (next : ℕ) (operation : NumberOperation) (f : Frame)
    → ResultMoves w f (number next operation f)
number_lawful w next (Binary kind op) f = binary_lawful w next f kind op (operands_of kind op f.stack)
number_lawful w next (Negate kind) f = negated_lawful w next f kind (operand_of kind f.stack)
number_lawful w next (Convert c) f = converted_lawful w next f c (operand_of (source_kind c) f.stack)
number_lawful w next CompareLongs f = compared_lawful w next f (two_longs_on f.stack)
