use Rattle.debug_texts.proofs.Pieces.{put_more}
use Rattle.debug_texts.proofs.counted.CountedSink.put.Goals as goal

pub pieces-preserved : goal.pieces-preserved
pieces-preserved g c = record {
  written = rw c.split_at.ensures.back
      (put_more _ _ _ _ _ c.in-Ok.count c.pieces.invariant.written c.in-Ok.ensures.bytes);
  same = c.pieces.invariant.same;
}
