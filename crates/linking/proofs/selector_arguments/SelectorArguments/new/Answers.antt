use Rattle.std.proofs.Common.{◌∙◌, ap, map}
use Rattle.model.specs.Signatures.{argument_kinds}
use Rattle.linking.specs.Selectors.{Signature, selectors}
use Rattle.linking.proofs.SelectorLemmas.{kinds-map}
use Rattle.linking.proofs.selector_arguments.SelectorArguments.new.Goals as goal

pub returns : goal.returns
returns c =
    c.in_ok-kinds.ensures ∙ kinds-map c.as_slice.result.now
    ∙ ap (map (λ (s : Signature). argument_kinds s.1))
    (c.as_slice.ensures ∙ ap selectors (c.in_ok-selectors.ensures ∙ c.program.ensures))
