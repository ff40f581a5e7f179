use Rattle.std.proofs.Common.{Some, ◌∙◌, ap}
use Rattle.model.specs.Classes.Named.{listed}
use Rattle.resolve.proofs.NamedLemmas.{named}
use Rattle.resolve.proofs.classes.Classes.class_named.Goals as goal

pub returns-in-Some-clause-named : goal.returns-in-Some-clause-named
returns-in-Some-clause-named c = named c.args.self.now c.args.name.now (Some c.in-Some.class) (c.in-Some.ensures
    ∙ ap (λ program. listed program c.args.name.now) c.self.view_is)
