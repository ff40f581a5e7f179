use Rattle.std.proofs.Common.{◌∙◌, sym, ap, bytes_eq, ℕ}
use Rattle.journal_texts.proofs.JournalReading.NumberWords.{not_text, not_parsed, printed, not_printed}
use Rattle.journal_texts.proofs.words.printed_number.Goals as goal

pub returns-in_default : goal.returns-in_default
returns-in_default c = sym (not_text c.args.word.now c.in_default.ensures.cases.0)

pub returns-in_default-parse : goal.returns-in_default-parse
returns-in_default-parse c = rw (← c.in-Ok.ensures.cases.0)
    (sym (not_parsed _ c.in-Ok.text.now c.in_default-parse.field-0 c.in_default-parse.ensures.value.0))

pub returns-then-eq : goal.returns-then-eq
returns-then-eq c =
    let text = c.in-Ok.ensures.cases.0 in
    let print = c.as_bytes.ensures.value ∙ c.format.ensures.text in
    let same = ap (λ w. bytes_eq w c.in-Ok.text.now) (sym print) ∙ ap (bytes_eq c.as_bytes.result.now) text
    ∙ sym c.if-eq.ensures in
    rw (← text) (sym (printed ℕ c.in-Ok.text.now c.in-Ok-parse.number c.in-Ok-parse.ensures.value.0 same))

pub returns-else-eq : goal.returns-else-eq
returns-else-eq c =
    let text = c.in-Ok.ensures.cases.0 in
    let print = c.as_bytes.ensures.value ∙ c.format.ensures.text in
    let other = ap (λ w. bytes_eq w c.in-Ok.text.now) (sym print) ∙ ap (bytes_eq c.as_bytes.result.now) text
    ∙ sym c.if-eq.ensures in
    rw (← text) (sym (not_printed ℕ c.in-Ok.text.now c.in-Ok-parse.number c.in-Ok-parse.ensures.value.0 other))
