use Rattle.std.proofs.Common.{◌∙◌, ap, arith, length, sym}
use Rattle.std.specs.Option.{option_copied}
use Rattle.linking.proofs.RunLemmas.{hierarchy as accepted_hierarchy, none_hides}
use Rattle.instructions.proofs.AcceptedClasses.{unrefused}
use Rattle.instructions.proofs.RunRows.{inside, past-none, row-run}
use Rattle.instructions.proofs.SelectedRows.{place_of_row}
use Rattle.instructions.proofs.starting.run_place.Goals as goal

pub returns-then-class-listings : goal.returns-then-class-listings
returns-then-class-listings c =
    let program = c.args.program.now in
    let accepted = c.requires.accepted in
    let count = ap length c.listings.ensures.listings in
    let past = c.if-class-listings.true in
    past-none program (accepted_hierarchy program accepted) (none_hides program accepted) c.args.class
    (omega (arith, count, past))

pub table-requires : goal.table-requires
table-requires c =
    let count = ap length c.listings.ensures.listings in
    let less = c.if-class-listings.false in
    inside c.args.program.now c.args.class (omega (arith, count, less))

pub returns-in-Some : goal.returns-in-Some
returns-in-Some c =
    let program = c.args.program.now in
    let free = unrefused program c.requires.accepted in
    let hides = none_hides program c.requires.accepted in
    let count = ap length c.listings.ensures.listings in
    let less = c.if-class-listings.false in
    sym (ap (λ o. place_of_row program free hides (option_copied o)) c.in-Some.is)
    ∙ row-run program free hides c.args.class c.table.result.now (option_copied c.run_row.result)
    (inside program c.args.class (omega (arith, count, less)))
    c.table.ensures c.run_row.ensures

pub returns-in-None : goal.returns-in-None
returns-in-None c =
    let program = c.args.program.now in
    let free = unrefused program c.requires.accepted in
    let hides = none_hides program c.requires.accepted in
    let count = ap length c.listings.ensures.listings in
    let less = c.if-class-listings.false in
    sym (ap (λ o. place_of_row program free hides (option_copied o)) c.in-None.is)
    ∙ row-run program free hides c.args.class c.table.result.now (option_copied c.run_row.result)
    (inside program c.args.class (omega (arith, count, less)))
    c.table.ensures c.run_row.ensures
