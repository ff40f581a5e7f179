use Rattle.std.proofs.Common.{◌∙◌, ap}
use Rattle.std.specs.List.{position}
use Rattle.linking.specs.Selectors.{is_signature}
use Rattle.linking.proofs.SelectorLemmas.{place-map}
use Rattle.linking.proofs.selectors.Signatures.place.Goals as goal

pub returns : goal.returns
returns c =
    c.get_index_of.ensures.index
    ∙ place-map (is_signature (c.args.name.now, c.args.descriptor.now)) c.self.inside.pairs.keys
    ∙ ap (position (is_signature (c.args.name.now, c.args.descriptor.now))) c.self.view_is
