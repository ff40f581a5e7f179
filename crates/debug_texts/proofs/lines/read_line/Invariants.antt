use Rattle.std.proofs.Common.{◌≡◌}
use Rattle.debug_texts.proofs.LineLemmas.{Read}
use Rattle.debug_texts.proofs.lines.read_line.Given as goal

abbrev pub invariant-bytes : goal.invariant-bytes
invariant-bytes g l = record {
  read : Read (g.S.Source.remaining l.initial.source) (g.S.Source.remaining l.source) l.line
      (g.S.Source.patience l.initial.source) (g.S.Source.patience l.source);
  same : g.S.Source.failures l.source ≡ g.S.Source.failures l.initial.source;
}

abbrev pub decreases-bytes : goal.decreases-bytes
decreases-bytes g l = g.S.Source.patience l.source
