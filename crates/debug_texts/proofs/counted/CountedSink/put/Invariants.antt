use Rattle.std.proofs.Common.{◌≡◌, length}
use Rattle.debug_texts.proofs.Pieces.{Put}
use Rattle.debug_texts.proofs.counted.CountedSink.put.Given as goal

abbrev pub invariant-pieces : goal.invariant-pieces
invariant-pieces g l = record {
  written : Put (g.W.Write.contents l.initial.self.inner) (g.W.Write.contents l.self.inner) l.rest l.initial.rest;
  same : l.self.failures ≡ l.initial.self.failures;
}

abbrev pub decreases-pieces : goal.decreases-pieces
decreases-pieces g l = length l.rest
