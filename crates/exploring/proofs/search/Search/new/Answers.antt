use Rattle.std.proofs.Common.{[], refl}
use Rattle.exploring.proofs.ExplorationLemmas.{opened}
use Rattle.exploring.proofs.search.Search.new.Goals as goal

pub returns-clause-known : goal.returns-clause-known
returns-clause-known c =
    λ first met long.
    let s = c.args.transitions.now in
    opened s.program s.limits first c.add.new.self c.in_ok-add.field-0 c.args.start c.args.depth
    (c.in_ok-add.ensures [] c.in_ok-states.ensures) met long
    (record { world = c.args.start; place = 0; level = 0; depth = c.args.depth }) refl c.nowhere.result
    (record {
      stored = c.add.new.self;
      origins = c.new-origins.result.items;
      waiting = c.new-waiting.result.items;
      turns = 0;
    }) c.keep.new.self (rw (c.new-origins.ensures.items, c.new-waiting.ensures.items) refl) c.in_ok-keep.ensures
