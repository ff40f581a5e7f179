use Rattle.std.proofs.Common.{sym}
use Rattle.std.proofs.lemmas.List.Elements.{All-push}
use Rattle.journal_texts.specs.JournalReading.{FitsRow}
use Rattle.journal_texts.proofs.JournalReading.Rows.{row_ends, row_fits, row_after, faulty}
use Rattle.journal_texts.proofs.row_lines.rows.Goals as goal

pub rows-smaller : goal.rows-smaller
rows-smaller c = row_ends c.args.version c.args.workers c.requires c.rows.rest.now c.in-Some.row c.in-Some.following.now
    c.in-Some.ensures

pub rows-preserved : goal.rows-preserved
rows-preserved c =
    let add = c.in_ok-add-in-Some.ensures.added in
    let fits = row_fits c.args.version c.args.workers c.requires c.rows.rest.now c.in-Some.row c.in-Some.following.now
    c.in-Some.ensures in
    let cut = row_after c.args.version c.args.workers c.requires c.rows.rest.now c.in-Some.row c.in-Some.following.now
    c.in-Some.ensures c.args.text.now c.rows.rows.rows c.rows.invariant.0 in
    rw add (cut, All-push (FitsRow c.args.workers) c.rows.rows.rows c.in-Some.row c.rows.invariant.1 fits)

pub returns-in-None : goal.returns-in-None
returns-in-None c = λ other. faulty c.args.version c.args.workers c.requires c.args.text.now c.rows.rows.rows
    c.rows.rest.now c.rows.invariant.1 c.rows.invariant.0 (sym c.rows-test.ensures) c.in-None.ensures
