use Rattle.std.proofs.Common.{◌∙◌, ap, map}
use Rattle.resolve.specs.Reached.{with_name}
use Rattle.resolve.proofs.ReachedLemmas.{with_name-map}
use Rattle.resolve.proofs.reached.Reached.add.Goals as goal

pub returns : goal.returns
returns c =
    ap (map (λ k. k.bytes.now)) c.in_ok-insert.ensures.keys
    ∙ with_name-map (λ k. k.bytes.now) c.self.inside.names.keys (record { bytes = c.args.name })
    ∙ ap (λ names. with_name names c.args.name.now) c.self.view_is
