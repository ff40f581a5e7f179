use Rattle.std.specs.Prelude.{ℕ}
use Rattle.model.specs.declared.turns.Fault.{Fault}
use Rattle.model.specs.declared.turns.Fault.TheVariants.{StackEmpty, StackFull, WrongKind, WrongLocal, NoInstruction}
use Rattle.model.specs.declared.turns.Fault.TheVariants.{WrongClass, WrongReturn, ThreadLimit, NoMethod, MonitorLimit}

-- the number after the F by which users know a fault
abbrev pub fault_number : Fault → ℕ
fault_number StackEmpty = 1
fault_number StackFull = 2
fault_number WrongKind = 3
fault_number WrongLocal = 4
fault_number NoInstruction = 5
fault_number WrongClass = 6
fault_number WrongReturn = 7
fault_number ThreadLimit = 8
fault_number NoMethod = 9
fault_number MonitorLimit = 10
