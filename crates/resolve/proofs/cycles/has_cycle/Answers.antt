use Rattle.std.proofs.Common.{ap, is_some, sym, ◌∙◌}
use Rattle.resolve.specs.Interfaces.{lists_in}
use Rattle.resolve.proofs.InterfaceLemmas.{missed-cycle, no-cycle}
use Rattle.resolve.proofs.cycles.has_cycle.Goals as goal

pub returns-then-not-has_all : goal.returns-then-not-has_all
returns-then-not-has_all c =
    missed-cycle c.args.index.now (lists_in c.args.interfaces.now.lists.entries) c.requires.full (sym c.has_all.ensures
    ∙ c.if-not-has_all.true)

pub returns-then-are_first : goal.returns-then-are_first
returns-then-are_first c =
    ap is_some
    (sym (no-cycle c.args.index.now (lists_in c.args.interfaces.now.lists.entries) c.requires.lists
    (sym c.is_apart.ensures ∙ c.if-is_apart.true) c.args.index.now
    (sym c.has_all.ensures ∙ c.if-not-has_all.false) (c.are_first.ensures c.if-are_first.true)))
