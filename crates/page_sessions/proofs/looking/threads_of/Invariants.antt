use Rattle.std.proofs.Common.{◌≡◌, ◌-◌, ◌++◌, length}
use Rattle.model.specs.Observers.{ideal}
use Rattle.page_sessions.specs.Texts.{threads_from, threads_text}
use Rattle.page_sessions.proofs.looking.threads_of.Given as goal

-- the text so far, and the threads that are left
abbrev pub invariant-loop-number : goal.invariant-loop-number
invariant-loop-number l =
    l.text.items ++ threads_from l.world l.number (length (ideal l.world).threads - l.number) ≡ threads_text l.world
