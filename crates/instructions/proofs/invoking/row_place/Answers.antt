use Rattle.std.proofs.Common.{◌∙◌, ap, sym}
use Rattle.resolve.specs.Numbers.{all_classes}
use Rattle.linking.proofs.RunLemmas.{none_hides}
use Rattle.instructions.proofs.AcceptedClasses.{unrefused}
use Rattle.instructions.proofs.SelectedRows.{inside-some, place_of_row, row-selected}
use Rattle.instructions.proofs.invoking.row_place.Goals as goal

pub returns-in-Some : goal.returns-in-Some
returns-in-Some c =
    let program = c.args.program.now in
    let free = unrefused program c.requires.accepted in
    let hides = none_hides program c.requires.accepted in
    sym (ap (place_of_row program free hides) c.in-Some.is)
    ∙ row-selected program free hides c.args.class c.args.selector c.row.result c.requires.selector
    (inside-some (all_classes program) c.args.class c.requires.class) c.row.ensures

pub returns-in-None : goal.returns-in-None
returns-in-None c =
    let program = c.args.program.now in
    let free = unrefused program c.requires.accepted in
    let hides = none_hides program c.requires.accepted in
    sym (ap (place_of_row program free hides) c.in-None.is)
    ∙ row-selected program free hides c.args.class c.args.selector c.row.result c.requires.selector
    (inside-some (all_classes program) c.args.class c.requires.class) c.row.ensures
