use Rattle.std.proofs.Common.{◌≡◌, ℕ, ℤ, List, [], Some, Result, Ok, Err}
use Rattle.model.specs.declared.turns.Fault.{Fault}
use Rattle.model.specs.declared.builtins.Builtin.{Builtin}
use Rattle.model.specs.declared.builtins.Builtin.TheVariants.{PrintInt, PrintLong, PutByte, Initialize, RunThread}
use Rattle.model.specs.declared.builtins.Builtin.TheVariants.{StartThread, JoinThread}
use Rattle.model.specs.Frames.{running, int_on, long_on, ref_on, replaced}
use Rattle.model.specs.Completions.{Site, frames_in}
use Rattle.model.specs.Printing.{decimal_line, low_byte}
use Rattle.model.specs.Table.Builtins.{prints_on, does_nothing, builtin_call}
use Rattle.model.specs.Collector.Places.{Reach}
use Rattle.model.specs.Collector.Moves.{CompletionMoves}
use Rattle.model.proofs.CollectorLemmas.Known.{stack_known}
use Rattle.model.proofs.CollectorLemmas.Stepping.{replaced_lawful, site_moves}
use Rattle.model.proofs.CollectorLemmas.Table.Monitors.{reference_may}
use Rattle.model.proofs.CollectorLemmas.Table.Threads.{started_moves, joined_moves}

print_moves : (s : Site) → running (frames_in s) ≡ Some s.frame → (bytes : ℤ → List ℕ) (r : Result ℤ Fault)
    → CompletionMoves s.world (prints_on s bytes r)
print_moves s e bytes (Err fault) = tt
print_moves s e bytes (Ok z) = site_moves s e (replaced s.next s.frame 1 []) (replaced_lawful s.world s.next s.frame 1
    [] tt)

nothing_moves : (s : Site) → running (frames_in s) ≡ Some s.frame → CompletionMoves s.world (does_nothing s)
nothing_moves s e = site_moves s e (replaced s.next s.frame 1 []) (replaced_lawful s.world s.next s.frame 1 [] tt)

pub builtin_moves : (s : Site) → running (frames_in s) ≡ Some s.frame → (builtin : Builtin)
    → CompletionMoves s.world (builtin_call s builtin)
builtin_moves s e PrintInt = print_moves s e decimal_line (int_on s.frame.stack)
builtin_moves s e PrintLong = print_moves s e decimal_line (long_on s.frame.stack)
builtin_moves s e PutByte = print_moves s e low_byte (int_on s.frame.stack)
builtin_moves s e Initialize = nothing_moves s e
builtin_moves s e RunThread = nothing_moves s e
builtin_moves s e StartThread = started_moves s e (ref_on s.frame.stack)
    (λ b h. reference_may (Reach s.world) s.frame.stack b (stack_known s.world s.thread _ s.frame e) h)
builtin_moves s e JoinThread = joined_moves s e (ref_on s.frame.stack)
