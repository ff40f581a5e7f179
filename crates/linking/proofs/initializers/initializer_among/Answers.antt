use Rattle.std.proofs.Common.{◌∙◌, ap, length}
use Rattle.std.specs.Option.{unwrap_or}
use Rattle.model.specs.Programs.{is_class_initializer}
use Rattle.linking.proofs.PlaceLemmas.{place-or}
use Rattle.linking.proofs.initializers.initializer_among.Goals as goal

pub returns : goal.returns
returns c =
    c.unwrap_or.ensures
    ∙ ap (λ o. unwrap_or o (length c.args.methods.now)) c.first_initializer.ensures
    ∙ place-or is_class_initializer c.args.methods.now
