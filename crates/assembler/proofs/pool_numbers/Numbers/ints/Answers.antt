use Rattle.std.proofs.Common.{rules, ◌≡◌, ◌+◌, ◌∙◌, ap, pos, get_or, List, ◌++◌, map, drop, subst}
use Rattle.std.specs.Int.{w32}
use Rattle.std.proofs.lemmas.Int.{to_z-of_z}
use Rattle.std.proofs.lemmas.List.{drop_more}
use Rattle.model.specs.ClassFiles.Items.{Item, with_items}
use Rattle.model.specs.ClassFiles.Items.Item.{int_item}
use Rattle.assembler.specs.Assembled.{HasRoom}
use Rattle.assembler.specs.declared.error.AsmError.TheVariants as error
use Rattle.assembler.proofs.StayingLaws.{given_on}
use Rattle.assembler.proofs.pool_numbers.Numbers.ints.Goals as goal

pub returns-in_err-int-clause-only : goal.returns-in_err-int-clause-only
returns-in_err-int-clause-only c =
    let values = c.args.values.now in
    let i = c.loop-value.value-index in
    given_on c.from_residual.result c.in_err-int.field-0.0 (λ e. (later : List Item)
    → HasRoom (with_items c.args.self.now (map int_item values ++ later)) → e ≡ error.Memory)
    c.from_residual.ensures.1
    (λ later room.
    (rw (to_z-of_z w32 (get_or values i (pos 0)) (search rules)) at c.in_err-int.ensures.only) (map
    int_item (drop (i + 1) values) ++ later)
    (subst HasRoom (c.loop-value.invariant later ∙ ap (λ zs. with_items c.loop-value.self (map int_item zs ++ later))
    (drop_more values i (pos 0) c.loop-value-test.true)) room))
