use Rattle.std.proofs.Common.{◌∙◌, ◌+◌}
use Rattle.explore_texts.specs.Reports.{found_text}
use Rattle.explore_texts.proofs.Numbered.{one_more, one_part}
use Rattle.explore_texts.proofs.reports.put_all.Goals as goal

pub returns-in-Err-clause-puts : goal.returns-in-Err-clause-puts
returns-in-Err-clause-puts g c =
    one_part found_text _ _ _ 1 c.args.found.now (c.loop-place.place + 1) c.loop-place.place c.index-found-place.result c.loop-place-test.true
    c.index-found-place.is c.loop-place.invariant.written c.in-Err.ensures.puts

pub loop-place-preserved : goal.loop-place-preserved
loop-place-preserved g c = record {
  written = one_more found_text _ _ _ 1 c.args.found.now (c.loop-place.place + 1) c.loop-place.place c.index-found-place.result c.loop-place-test.true
      c.index-found-place.is c.loop-place.invariant.written c.in-Ok.ensures.puts;
  same = c.in-Ok.ensures.same ∙ c.loop-place.invariant.same;
}
