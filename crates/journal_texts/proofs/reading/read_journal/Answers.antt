use Rattle.std.proofs.Common.{◌∙◌, sym, ap, length, refl}
use Rattle.std.proofs.lemmas.Result.{err_from_is_err_and}
use Rattle.model.specs.JournalTexts.{end_line}
use Rattle.journal_texts.proofs.JournalReading.Whole.{no_head, no_rows, no_end, is_journal}
use Rattle.journal_texts.proofs.reading.read_journal.Goals as goal

pub returns-in_err-head-clause-refused : goal.returns-in_err-head-clause-refused
returns-in_err-head-clause-refused c =
    let p = err_from_is_err_and c.from_residual.result c.from_residual.ensures.1 in
    rw (p.1) (λ other. no_head c.args.text.now c.in_err-head.ensures)

pub returns-in_err-rows-clause-refused : goal.returns-in_err-rows-clause-refused
returns-in_err-rows-clause-refused c =
    let p = err_from_is_err_and c.from_residual-in_err-rows.result c.from_residual-in_err-rows.ensures.1 in
    rw (p.1, p.2) (λ other. no_rows c.args.text.now c.in_ok-head.head c.in_ok-head.rest.now c.in_ok-head.ensures.0
    (c.in_err-rows.ensures other))

pub returns-then-not-is_end_line-clause-refused : goal.returns-then-not-is_end_line-clause-refused
returns-then-not-is_end_line-clause-refused c =
    let count = c.len.ensures ∙ ap length c.rows-3.ensures in
    λ other. no_end c.args.text.now c.in_ok-head.head c.in_ok-head.rest.now c.in_ok-head.ensures.0
    c.in_ok-rows.rows.rows c.in_ok-rows.rest.now c.in_ok-head.ensures.1 c.in_ok-rows.ensures.1
    c.in_ok-rows.ensures.0 c.in_ok-rows.ensures.2
    (λ e. let ended = c.if-not-is_end_line.ensures.1 (e ∙ ap end_line (sym count)) in cc)

pub returns-clause-journal : goal.returns-clause-journal
returns-clause-journal c =
    let count = c.len.ensures ∙ ap length c.rows-3.ensures in
    rw (c.new.ensures) (is_journal c.args.text.now c.in_ok-head.head c.in_ok-head.rest.now c.in_ok-head.ensures.0
    c.in_ok-rows.rows.rows c.in_ok-rows.rest.now c.in_ok-head.ensures.1 c.in_ok-rows.ensures.1
    c.in_ok-rows.ensures.0 (c.if-not-is_end_line.ensures.0 refl ∙ ap end_line count))
