use Rattle.std.proofs.Common.{◌≡◌, ◌++◌, drop}
use Rattle.ideal_run.proofs.copies.threads.Given as goal

-- the copies and those that are left are all
abbrev pub invariant-loop-each : goal.invariant-loop-each
invariant-loop-each l = l.copies.items ++ drop l.each-index l.threads ≡ l.threads
