use Rattle.page_texts.proofs.RowLemmas.{written}
use Rattle.page_texts.proofs.journal_rows.rows_answer.Goals as goal

pub loop-row-preserved : goal.loop-row-preserved
loop-row-preserved c = rw c.in_ok-write_row-in-Some.ensures
    (written c.args.count c.loop-row._row c.in-Some.row c.loop-row.rest c.next.new.self c.loop-row.text.items _
    c.loop-row-test.true c.in-Some.ensures.steps c.loop-row.invariant)
