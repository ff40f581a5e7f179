use Rattle.std.proofs.Common.{◌∙◌, sym, ap, ◌∷◌, [], bytes_eq}
use Rattle.std.proofs.lemmas.Slice.Eq.{bytes_eq-Decides}
use Rattle.journal_texts.specs.JournalReading.{following}
use Rattle.journal_texts.proofs.JournalReading.EndLine.{no_number, last_is, is_end}
use Rattle.journal_texts.proofs.reading.is_end_line.Goals as goal

pub returns-in_default-following : goal.returns-in_default-following
returns-in_default-following c =
    let number = ap (λ w. following w c.in-Some.rest.now) (sym (c.as_bytes.ensures.value ∙ c.format.ensures.text)) in (
      λ f. cc,
      λ is. absurd (no_number c.args.text.now c.args.rows c.in-Some.rest.now c.in-Some.ensures (number
          ∙ c.in_default-following.ensures) is),
    )

pub returns : goal.returns
returns c =
    let number = ap (λ w. following w c.in-Some.rest.now) (sym (c.as_bytes.ensures.value ∙ c.format.ensures.text))
    ∙ c.in-Some-following.ensures in
    let same = c.eq.ensures ∙ ap (bytes_eq c.in-Some-following.rest.now) c.as_slice.ensures in
    let tells = bytes_eq-Decides c.in-Some-following.rest.now (10 ∷ []) in (
      λ e. is_end c.args.text.now c.args.rows c.in-Some.rest.now c.in-Some.ensures c.in-Some-following.rest.now number
          (tells.0 (sym same ∙ e)),
      λ is. same ∙ tells.1 (last_is c.args.text.now c.args.rows c.in-Some.rest.now c.in-Some.ensures
          c.in-Some-following.rest.now number is),
    )
