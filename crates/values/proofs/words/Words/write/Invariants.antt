use Rattle.values.proofs.WordLemmas.{IsWritten}
use Rattle.values.proofs.words.Words.write.Given as goal

abbrev pub invariant-loop-n : goal.invariant-loop-n
invariant-loop-n l = IsWritten l.fn.self l.values l.base l.n l.self
