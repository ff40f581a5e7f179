use Rattle.std.proofs.Common.{◌∙◌, ◌++◌, ap, Some}
use Rattle.std.proofs.lemmas.Bool.Decides.{Decides-eqb}
use Rattle.std.proofs.lemmas.Slice.Eq.{strip_prefix_is}
use Rattle.explore_texts.proofs.witnesses.thread_at.Goals as goal

pub returns : goal.returns
returns c =
    let printed = c.as_bytes.ensures.value ∙ c.format.ensures.text in
    strip_prefix_is Decides-eqb c.args.text.now c.as_bytes.result.now (Some c.in_ok-rest.rest) c.in_ok-rest.ensures.cases
    ∙ ap (λ word. word ++ c.in_ok-rest.rest.now) printed
