use Rattle.std.proofs.Common.{◌+◌, ◌≤◌, length, arith, sym, subst, ℕ, List}
use Rattle.resolve.proofs.ReachedLemmas.{IsReached, reached-first, reached-next, reached-all}
use Rattle.resolve.proofs.reached.Reached.close.Goals as goal

pub loop-next-init : goal.loop-next-init
loop-next-init c = reached-first c.args.index.now c.args.self.now

pub loop-next-preserved : goal.loop-next-preserved
loop-next-preserved c =
    subst (λ (names : List (List ℕ)). IsReached c.args.index.now c.args.self.now names (c.loop-next.next + 1))
    (sym c.in_ok-add_parents_named.ensures)
    (reached-next c.args.index.now c.args.self.now c.loop-next.self c.loop-next.next c.get-name.result.now
    c.loop-next.invariant c.get-name.ensures)

pub returns : goal.returns
returns c =
    let few : length c.loop-next.self ≤ c.loop-next.next = omega arith in
    reached-all c.args.index.now c.args.self.now c.loop-next.self c.loop-next.next c.loop-next.invariant few
