use Rattle.std.proofs.Common.{◌∙◌}
use Rattle.explore_texts.specs.Reports.{end_line}
use Rattle.explore_texts.proofs.Numbered.{one_more, one_part}
use Rattle.explore_texts.proofs.reports.put_ends.Goals as goal

pub returns-in-Err-clause-puts : goal.returns-in-Err-clause-puts
returns-in-Err-clause-puts g c =
    one_part end_line _ _ _ 0 c.args.ends.now c.loop-thread.thread c.loop-thread.thread c.index-ends-thread.result c.loop-thread-test.true
    c.index-ends-thread.is c.loop-thread.invariant.written c.in-Err.ensures.puts

pub loop-thread-preserved : goal.loop-thread-preserved
loop-thread-preserved g c = record {
  written = one_more end_line _ _ _ 0 c.args.ends.now c.loop-thread.thread c.loop-thread.thread c.index-ends-thread.result c.loop-thread-test.true
      c.index-ends-thread.is c.loop-thread.invariant.written c.in-Ok.ensures.puts;
  same = c.in-Ok.ensures.same ∙ c.loop-thread.invariant.same;
}
