use Rattle.std.proofs.Common.{ap, ◌+◌, ◌-◌, ◌∙◌}
use Rattle.frames.specs.Activations.{all_of}
use Rattle.frames.proofs.ActivationLemmas.{pushed_over}
use Rattle.frames.proofs.activations.Activations.push_over.Goals as goal

pub returns : goal.returns
returns c =
    ap (λ a. all_of c.put_without.new.activations.items a (c.self.inside.count + 1)) c.become_activation.ensures
    ∙ pushed_over (λ a. record a { values = a.values - c.args.values; taken = a.taken - c.args.units }) _ _ _ _ _ _
    c.self.view_is c.requires.some c.put_without.ensures.items
