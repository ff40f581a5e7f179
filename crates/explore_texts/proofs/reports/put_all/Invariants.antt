use Rattle.std.proofs.Common.{◌≡◌, ◌+◌}
use Rattle.explore_texts.specs.Reports.{found_text}
use Rattle.explore_texts.proofs.Numbered.{Written}
use Rattle.explore_texts.proofs.reports.put_all.Given as goal

abbrev pub invariant-loop-place : goal.invariant-loop-place
invariant-loop-place g l = record {
  written : Written found_text (g.S.Sink.contents l.initial.sink) (g.S.Sink.contents l.sink) 1 l.found (l.place + 1) l.place;
  same : g.S.Sink.failures l.sink ≡ g.S.Sink.failures l.initial.sink;
}
