use Rattle.std.specs.Prelude.{ℕ, ℤ, List, [], Result, Ok, Err}
use Rattle.model.specs.declared.turns.Fault.{Fault}
use Rattle.model.specs.declared.builtins.Builtin.{Builtin}
use Rattle.model.specs.declared.builtins.Builtin.TheVariants.{PrintInt, PrintLong, PutByte, Initialize, RunThread}
use Rattle.model.specs.declared.builtins.Builtin.TheVariants.{StartThread, JoinThread}
use Rattle.model.specs.Frames.{int_on, long_on, ref_on, replaced}
use Rattle.model.specs.Completions.{Completion, Site, with_frame, moves_in}
use Rattle.model.specs.Completions.Completion.{Prints, Faults}
use Rattle.model.specs.Printing.{decimal_line, low_byte}
use Rattle.model.specs.Table.Threads.{started, joined}

-- what is printed of an operand
abbrev pub prints_on : Site → (ℤ → List ℕ) → Result ℤ Fault → Completion
prints_on s bytes (Err fault) = Faults fault
prints_on s bytes (Ok z) = Prints (with_frame s.world s (replaced s.next s.frame 1 []).frame) (bytes z)

-- the object goes, and nothing else changes
abbrev pub does_nothing : Site → Completion
does_nothing s = moves_in s.world s (replaced s.next s.frame 1 [])

-- a call of one of the machine's own methods: one turn, and no frame
abbrev pub builtin_call : Site → Builtin → Completion
builtin_call s PrintInt = prints_on s decimal_line (int_on s.frame.stack)
builtin_call s PrintLong = prints_on s decimal_line (long_on s.frame.stack)
builtin_call s PutByte = prints_on s low_byte (int_on s.frame.stack)
builtin_call s Initialize = does_nothing s
builtin_call s RunThread = does_nothing s
builtin_call s StartThread = started s (ref_on s.frame.stack)
builtin_call s JoinThread = joined s (ref_on s.frame.stack)
