use Rattle.page_texts.proofs.RowLemmas.{passed}
use Rattle.page_texts.proofs.journal_rows.later.Goals as goal

pub loop-row-preserved : goal.loop-row-preserved
loop-row-preserved c = passed c.args.first c.loop-row._row _ c.loop-row.rest c.next.new.self _
    c.loop-row-test.true c.in-Some.ensures.steps c.loop-row.invariant
