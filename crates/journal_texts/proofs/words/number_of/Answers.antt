use Rattle.std.proofs.Common.{◌∙◌, Some, ap, arith, subst, sym}
use Rattle.std.specs.Char.{IsAsciiDigit, IsNotAsciiDigit}
use Rattle.std.specs.Prelude.{MatchBool, slice_index_or}
use Rattle.journal_texts.proofs.JournalReading.NumberWords.{digit}
use Rattle.journal_texts.proofs.words.number_of.Goals as goal

pub returns-in-len1 : goal.returns-in-len1
returns-in-len1 c =
    let word = c.args.word.now in
    let byte = slice_index_or word 0 0 in
    let range : IsAsciiDigit byte = subst (λ b. MatchBool b (IsAsciiDigit byte) (IsNotAsciiDigit byte))
    c.if-is_ascii_digit.true c.is_ascii_digit.ensures.cases in
    let most = range.1 in
    ap Some c.from.ensures
    ∙ sym (digit word c.in-len1.len_at_least c.in-len1.len_below range.0 (omega (arith, most)))
