use Rattle.std.proofs.Common.{◌∙◌, ap, sym}
use Rattle.model.specs.Classes.Search.{first_declared, superinterfaces}
use Rattle.model.specs.Classes.Subclasses.{enough_steps}
use Rattle.resolve.proofs.InterfaceLemmas.{list-is, none-is}
use Rattle.resolve.proofs.SearchLemmas.{first-once}
use Rattle.resolve.proofs.classes.Classes.declared_by_interfaces.Goals as goal

pub returns-in_err-interfaces : goal.returns-in_err-interfaces
returns-in_err-interfaces g c =
    let p = c.args.self.now in
    c.from_residual.ensures
    ∙ ap (first_declared p (g.S.Sought.of c.args.sought.now))
    (sym (none-is (enough_steps p) p c.args.name.now c.in_err-interfaces.ensures))

pub returns : goal.returns
returns g c =
    let p = c.args.self.now in
    c.declared_among.ensures
    ∙ ap (first_declared p (g.S.Sought.of c.args.sought.now))
    (c.as_slice.ensures ∙ list-is (enough_steps p) p c.args.name.now c.in_ok-interfaces.interfaces.now
    c.in_ok-interfaces.ensures)
    ∙ first-once p (g.S.Sought.of c.args.sought.now) (superinterfaces p c.args.name.now)
