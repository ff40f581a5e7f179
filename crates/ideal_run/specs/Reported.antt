use Rattle.std.specs.Prelude.{ℤ, Result, Ok, Err}
use Rattle.model.specs.declared.turns.Abrupt.{Abrupt}
use Rattle.model.specs.declared.instructions.Conversion.{Conversion}
use Rattle.model.specs.declared.turns.Fault.{Fault}
use Rattle.model.specs.declared.values.Value.{Value}
use Rattle.model.specs.Arithmetic.{conversion_result}
use Rattle.model.specs.Frames.{Frame, Moved}
use Rattle.model.specs.Table.Numbers.{number_value, target_kind}

-- What the ideal run knows of a step: all but the births that it writes, which only a collector asks for.

abbrev pub frame_in : Result Moved Abrupt → Result Frame Abrupt
frame_in (Ok m) = Ok m.frame
frame_in (Err abrupt) = Err abrupt

-- what a conversion makes of the number that was found
abbrev pub value_converted : Conversion → Result ℤ Fault → Result Value Fault
value_converted c (Err fault) = Err fault
value_converted c (Ok z) = Ok (number_value (target_kind c) (conversion_result c z))
