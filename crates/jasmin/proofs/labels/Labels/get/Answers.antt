use Rattle.std.proofs.Common.{◌∙◌, ap}
use Rattle.model.specs.Texts.Tables.{named}
use Rattle.jasmin.proofs.LabelLemmas.{named_of}
use Rattle.jasmin.proofs.labels.Labels.get.Goals as goal

pub returns : goal.returns
returns g c =
    c.copied.ensures ∙ c.get.ensures.value ∙ named_of (λ k. k.now) c.args.name.now c.self.inside.table.entries
    ∙ ap (λ rows. named rows c.args.name.now) c.self.view_is
