use Rattle.std.proofs.Common.{◌∙◌, ap, ℕ, List, map}
use Rattle.model.specs.Texts.Labels.{pc_of}
use Rattle.model.specs.Texts.ListingOfTree.{placed_from, row_with, code_listing}
use Rattle.model.specs.Texts.Widths.{widened_line}
use Rattle.assembler.specs.Checks.{pc_in}
use Rattle.assembler.proofs.CheckLemmas.{settled_is}
use Rattle.assembler.proofs.listings.settled.Goals as goal

pub returns : goal.returns
returns c =
    let narrow = c.args.narrow.now in
    let pcs = c.in_ok-pcs.pcs in
    let body = c.body.inside in
    let lines = c.as_slice-lines.ensures.value in
    let rows = c.in_ok-listed_rows.ensures ∙ ap (map (row_with (pc_in pcs))) c.as_slice.ensures.value in
    let instructions = c.in_ok-placed.ensures ∙ ap (λ ls. placed_from (pc_in pcs) 0 (map (widened_line narrow) ls))
    lines in
    let same = λ (name : List ℕ). c.in_ok-pcs.ensures name ∙ ap (λ ls. pc_of 0 (map (widened_line narrow) ls) name)
    lines in
    settled_is narrow pcs body.max_stack body.max_locals c.in_ok-listed_rows.field-0.items c.in_ok-placed.field-0.items
    body.rows.items body.lines.items same rows instructions
    ∙ ap (code_listing narrow) c.body.view_is
