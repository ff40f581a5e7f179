use Rattle.std.proofs.Common.{rules, ◌≡◌, ◌+◌, replicate}
use Rattle.model.specs.declared.colours.Cell.TheVariants.{Free}
use Rattle.colours.proofs.Numbers.{opens}
use Rattle.colours.proofs.accounts.Account.empty.Goals as goal

pub invariant_of-result : goal.invariant_of-result
invariant_of-result c =
    let cells : c.in_ok-vec.field-0.items ≡ replicate (c.args.shape.small + c.args.shape.medium + c.args.shape.large)
    Free = search rules in
    opens c.args.shape _ c.in_ok-new.field-0 c.in_ok-with_capacity.field-0 c.requires cells c.in_ok-new.ensures
    c.in_ok-with_capacity.ensures
