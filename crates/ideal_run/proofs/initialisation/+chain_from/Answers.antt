use Rattle.std.proofs.Common.{◌≡◌, arith}
use Rattle.std.proofs.lemmas.Result.{IfOk-weaker}
use Rattle.model.specs.declared.turns.ClassState.TheVariants.{Unused}
use Rattle.model.specs.Classes.Search.{upwards}
use Rattle.model.specs.Initialisation.{Chain, chain_from, chain_with}
use Rattle.ideal_run.proofs.ChainLemmas.{chain-unused}
use Rattle.ideal_run.proofs.initialisation.+chain_from.Goals as goal

pub returns-in_ok-further-in-Unused : goal.returns-in_ok-further-in-Unused
returns-in_ok-further-in-Unused t c =
    IfOk-weaker c.with_class.result (λ (x : Chain). x
    ≡ chain_with c.in-Some.class Unused c.in_ok-further-in-Unused.further)
    (λ (x : Chain). x ≡ chain_from c.args.program.now c.args.states.now (upwards c.args.steps c.args.program.now
    c.args.name.now))
    (λ x h. chain-unused c.args.program.now c.args.states.now c.args.name.now c.superclass_at-superclass.result.now
    c.args.steps c.in-Some.class c.in_ok-further-in-Unused.further x
    (omega arith) c.in-Some.ensures c.in-Unused.ensures c.superclass_at-superclass.ensures
    c.in_ok-further-in-Unused.ensures h)
    c.with_class.ensures
