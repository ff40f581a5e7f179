use Rattle.std.proofs.Common.{◌≡◌, ◌∙◌, arith, refl}
use Rattle.scheduler.proofs.Bursts.{made-answer, made-world, still-answer, still-world}
use Rattle.scheduler.proofs.worlds.World.turn_of_picked.Goals as goal

pub returns-then-rounds-gt0-clause-world : goal.returns-then-rounds-gt0-clause-world
returns-then-rounds-gt0-clause-world c =
    let made = c.rounds_in_turn-rounds in
    let one : made.result.made ≡ 1 = omega (arith, made.ensures.most, c.if-rounds-gt0.true) in
    made-world c.args.self.now made.new.self c.args.worker made.result.made (made.ensures.alone refl) one

pub returns-then-rounds-gt0-clause-answer : goal.returns-then-rounds-gt0-clause-answer
returns-then-rounds-gt0-clause-answer c =
    let made = c.rounds_in_turn-rounds in
    let one : made.result.made ≡ 1 = omega (arith, made.ensures.most, c.if-rounds-gt0.true) in
    made-answer c.args.self.now made.new.self c.args.worker made.result.made (made.ensures.alone refl) one

pub returns-else-rounds-gt0-clause-world : goal.returns-else-rounds-gt0-clause-world
returns-else-rounds-gt0-clause-world c =
    let made = c.rounds_in_turn-rounds in
    let none : made.result.made ≡ 0 = omega (arith, c.if-rounds-gt0.false) in
    c.turn_of_ready.ensures.world
    ∙ still-world c.args.self.now made.new.self c.args.worker made.result.made (made.ensures.alone refl) none

pub returns-else-rounds-gt0-clause-answer : goal.returns-else-rounds-gt0-clause-answer
returns-else-rounds-gt0-clause-answer c =
    let made = c.rounds_in_turn-rounds in
    let none : made.result.made ≡ 0 = omega (arith, c.if-rounds-gt0.false) in
    c.turn_of_ready.ensures.answer
    ∙ still-answer c.args.self.now made.new.self c.args.worker made.result.made (made.ensures.alone refl) none
