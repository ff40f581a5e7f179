use Rattle.std.proofs.Common.{◌+◌, ◌-◌, ◌++◌, ◌∙◌, List, ap, arith, replicate, sym}
use Rattle.exploring.specs.declared.explored.Move.{Move}
use Rattle.exploring.specs.Origins.{moves_back}
use Rattle.exploring.proofs.OriginLemmas.{none_back, one_back}
use Rattle.exploring.proofs.origins.moves_back.Goals as goal

pub returns-in-None : goal.returns-in-None
returns-in-None c =
    let within = c.loop-turn-test.true in
    none_back c.args.origins.now c.args.level c.loop-turn._turn c.loop-turn.at c.loop-turn.moves.items
    (moves_back c.args.origins.now c.args.level c.args.place) c.loop-turn.invariant (omega (arith, within))
    (sym c.origin_at.ensures ∙ c.in-None.is)

pub loop-turn-preserved : goal.loop-turn-preserved
loop-turn-preserved c =
    let within = c.loop-turn-test.true in
    let o = c.in-Some.origin in
    let ms = c.loop-turn.moves.items in
    ap (λ (xs : List Move). xs ++ moves_back c.args.origins.now (c.args.level - (c.loop-turn._turn + 1)) o.parent)
    c.in_ok-push-in-Some.ensures.items
    ∙ one_back c.args.origins.now c.args.level c.loop-turn._turn c.loop-turn.at ms
    (moves_back c.args.origins.now c.args.level c.args.place) c.loop-turn.invariant (omega (arith, within)) o
    (sym c.origin_at.ensures ∙ c.in-Some.is) c.add_times.new.moves.items
    (c.in_ok-add_times-in-Some.ensures ∙ ap (λ (m : Move). ms ++ replicate o.ahead m) c.plain_after.ensures)
