use Rattle.std.proofs.Common.{◌≡◌}
use Rattle.debug_texts.proofs.Pieces.{Written}
use Rattle.debug_texts.proofs.answers.put_pieces.Given as goal

abbrev pub invariant-loop-piece : goal.invariant-loop-piece
invariant-loop-piece g l = record {
  written : Written (g.S.Sink.contents l.initial.sink) (g.S.Sink.contents l.sink) l.pieces l.piece-index;
  same : g.S.Sink.failures l.sink ≡ g.S.Sink.failures l.initial.sink;
}
