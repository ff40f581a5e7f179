use Rattle.std.proofs.Common.{◌∙◌, ap, Some, codes, Bool}
use Rattle.std.specs.Str.{bytes_eq}
use Rattle.model.specs.Classes.Subclasses.{is_subclass}
use Rattle.model.specs.Classes.Types.{element_of, types_compare}
use Rattle.resolve.specs.Elements.{shown}
use Rattle.resolve.proofs.classes.Classes.compare_types.Goals as goal

pub returns-in-Some-element_of : goal.returns-in-Some-element_of
returns-in-Some-element_of c =
    let class : Bool = is_subclass c.args.self.now c.args.name.now c.args.above.now in
    let object : Bool = bytes_eq c.args.above.now (codes "java/lang/Object") in
    λ elements.
    c.compare_elements.ensures class object elements
    ∙ ap (λ e. types_compare class object elements e (shown (Some c.in-Some-element_of.other))) c.in-Some.ensures
    ∙ ap (types_compare class object elements (element_of c.args.name.now)) c.in-Some-element_of.ensures
