use Rattle.std.proofs.Common.{◌≡◌}
use Rattle.explore_texts.specs.Reports.{end_line}
use Rattle.explore_texts.proofs.Numbered.{Written}
use Rattle.explore_texts.proofs.reports.put_ends.Given as goal

abbrev pub invariant-loop-thread : goal.invariant-loop-thread
invariant-loop-thread g l = record {
  written : Written end_line (g.S.Sink.contents l.initial.sink) (g.S.Sink.contents l.sink) 0 l.ends l.thread l.thread;
  same : g.S.Sink.failures l.sink ≡ g.S.Sink.failures l.initial.sink;
}
