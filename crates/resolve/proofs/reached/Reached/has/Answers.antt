use Rattle.std.proofs.Common.{◌∙◌, ap}
use Rattle.resolve.specs.Reached.{has_name}
use Rattle.resolve.proofs.ReachedLemmas.{has-map}
use Rattle.resolve.proofs.reached.Reached.has.Goals as goal

pub returns : goal.returns
returns c =
    c.contains.ensures
    ∙ has-map (λ k. k.bytes.now) c.args.name.now c.self.inside.names.keys
    ∙ ap (λ names. has_name names c.args.name.now) c.self.view_is
