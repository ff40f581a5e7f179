use Rattle.std.proofs.Common.{◌∙◌}
use Rattle.debug_texts.proofs.Pieces.{piece_more, piece_part}
use Rattle.debug_texts.proofs.answers.put_pieces.Goals as goal

pub returns-in-Err-clause-puts : goal.returns-in-Err-clause-puts
returns-in-Err-clause-puts g c =
    piece_part _ _ _ c.args.pieces.now c.loop-piece.piece-index _ c.loop-piece-test.true
    c.loop-piece.invariant.written c.in-Err.ensures.part

pub loop-piece-preserved : goal.loop-piece-preserved
loop-piece-preserved g c = record {
  written = piece_more _ _ _ c.args.pieces.now c.loop-piece.piece-index _ c.loop-piece-test.true
      c.loop-piece.invariant.written c.in-Ok.ensures.whole;
  same = c.in-Ok.ensures.same ∙ c.loop-piece.invariant.same;
}
