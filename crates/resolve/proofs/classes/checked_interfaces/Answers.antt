use Rattle.std.proofs.Common.{sym, ◌∙◌, rules}
use Rattle.resolve.specs.Interfaces.{lists_in}
use Rattle.resolve.proofs.InterfaceLemmas.{lists-are, none-cyclic}
use Rattle.resolve.proofs.classes.checked_interfaces.Goals as goal

pub returns-clause-some : goal.returns-clause-some
returns-clause-some c =
    let acyclic = none-cyclic c.args.index.now (sym c.in_ok-has_cycle.ensures ∙ c.if-branch.false) in (
      (search rules, acyclic),
      lists-are c.args.index.now (lists_in c.in_ok-interfaces.interfaces.lists.entries)
          c.in_ok-interfaces.ensures.full acyclic c.in_ok-interfaces.ensures.lists,
    )
