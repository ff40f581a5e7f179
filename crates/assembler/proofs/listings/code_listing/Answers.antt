use Rattle.std.proofs.Common.{sym, ◌∙◌, ap, map}
use Rattle.std.specs.List.{list_all}
use Rattle.model.specs.Texts.Assembling.{size_is_right, reaches}
use Rattle.model.specs.Texts.Labels.{pc_following, pc_of}
use Rattle.model.specs.Texts.Widths.{widened_line}
use Rattle.assembler.specs.Checks.{line_agrees}
use Rattle.assembler.proofs.CheckLemmas.{right_parts, parts_right}
use Rattle.assembler.proofs.listings.code_listing.Goals as goal

pub returns-then-not-lines_agree-clause-only : goal.returns-then-not-lines_agree-clause-only
returns-then-not-lines_agree-clause-only c right =
    let narrow = c.args.narrow.now in
    let f = pc_of 0 (map (widened_line narrow) c.args.body.now.lines) in
    let same = c.as_slice-lines.ensures.value ∙ ap (λ b. b.lines) c.body.view_is in
    let r = right_parts narrow c.args.body.now right in
    let agree = c.lines_agree.ensures narrow f ∙ ap (list_all (line_agrees narrow f)) same ∙ r.agree in
    let wrong = sym agree ∙ c.if-not-lines_agree.true in
    cc

pub returns-then-not-has_right_size-clause-only : goal.returns-then-not-has_right_size-clause-only
returns-then-not-has_right_size-clause-only c right =
    let narrow = c.args.narrow.now in
    let same = c.as_slice-lines.ensures.value ∙ ap (λ b. b.lines) c.body.view_is in
    let r = right_parts narrow c.args.body.now right in
    let wrong = sym (c.has_right_size.ensures ∙ ap (λ ls. size_is_right (pc_following 0 (map (widened_line narrow) ls)))
    same ∙ r.size) ∙ c.if-not-has_right_size.true in
    cc

pub returns-clause-found : goal.returns-clause-found
returns-clause-found c =
    let narrow = c.args.narrow.now in
    let f = pc_of 0 (map (widened_line narrow) c.args.body.now.lines) in
    let same = c.as_slice-lines.ensures.value ∙ ap (λ b. b.lines) c.body.view_is in
    let code = c.in_ok-code.ensures in
    let agree = sym (ap (list_all (line_agrees narrow f)) same) ∙ sym (c.lines_agree.ensures narrow f)
    ∙ c.if-not-lines_agree.false in
    let size = sym (ap (λ ls. size_is_right (pc_following 0 (map (widened_line narrow) ls))) same)
    ∙ sym c.has_right_size.ensures ∙ c.if-not-has_right_size.false in
    let instructions = c.as_slice.ensures.value ∙ ap (λ x. x.instructions) (c.code.view_is ∙ code) in
    let reach = sym (ap (list_all (λ p. reaches p.pc p.instruction)) instructions) ∙ sym c.all_reach.ensures
    ∙ c.if-not-all_reach.false in
    (code, parts_right narrow c.args.body.now (record { agree = agree; size = size; reach = reach }))
