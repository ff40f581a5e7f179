use Rattle.std.proofs.Common.{◌∙◌, ◌-◌, ◌+◌, length, ap, arith}
use Rattle.linking.specs.ClassFacts.{ClassFacts}
use Rattle.linking.specs.ClassTables.{class_tables, superclass_in}
use Rattle.model.specs.ClassListings.{ClassListing}
use Rattle.std.proofs.Common.{List}
use Rattle.instructions.specs.InitialisingByNumbers.{chain_at}
use Rattle.instructions.proofs.ClaimLemmas.{chain-found, claim-found, walk-ends, walk-next, walk-none, walk-over}
use Rattle.instructions.proofs.claims.unused_classes.Goals as goal

pub loop-preserved : goal.loop-preserved
loop-preserved c = (
  walk-next (class_tables c.args.program.now) c.args.states.now
      (chain_at c.args.program.now c.args.states.now c.args.class) (length c.listings.result.now + 24) c.loop.counter
      c.loop.next c.in-Some.class c.loop.count c.state_at.result c.loop-test.true c.in-Some.is c.state_at.ensures
      c.loop.invariant.0 c.in-Unused.is c.superclass-next.result
      (c.superclass-next.ensures
      ∙ ap (λ (classes : List ClassFacts). superclass_in classes c.in-Some.class) c.tables.ensures.classes_are),
  omega (arith, c.loop.invariant.1),
)

pub returns-in_default-state_at : goal.returns-in_default-state_at
returns-in_default-state_at c =
    let ends = walk-ends (class_tables c.args.program.now) c.args.states.now
    (chain_at c.args.program.now c.args.states.now c.args.class) (length c.listings.result.now + 24) c.loop.counter
    c.loop.next c.in-Some.class c.loop.count c.state_at.result c.loop-test.true c.in-Some.is c.state_at.ensures
    c.loop.invariant.0 c.in_default-state_at.not-Unused in
    record {
      chain = chain-found c.args.program.now c.args.states.now c.args.class c.loop.count _ c.requires.sized ends;
      claimed = claim-found c.args.program.now c.args.states.now c.args.class c.loop.count _ c.requires.sized ends;
      few = omega (
        arith,
        c.loop.invariant.1,
        c.loop-test.true,
        ap (λ (cs : List ClassListing). length cs) c.listings.ensures.listings,
        c.listings.ensures.few,
      );
    }

pub returns-after-loop-clause-chain : goal.returns-after-loop-clause-chain
returns-after-loop-clause-chain c =
    chain-found c.args.program.now c.args.states.now c.args.class c.loop.count _ c.requires.sized
    (walk-over (class_tables c.args.program.now) c.args.states.now
    (chain_at c.args.program.now c.args.states.now c.args.class)
    (length c.listings.result.now + 24 - c.loop.counter) c.loop.next c.loop.count (omega (arith, c.loop-test.false))
    c.loop.invariant.0)

pub returns-after-loop-clause-claimed : goal.returns-after-loop-clause-claimed
returns-after-loop-clause-claimed c =
    claim-found c.args.program.now c.args.states.now c.args.class c.loop.count _ c.requires.sized
    (walk-over (class_tables c.args.program.now) c.args.states.now
    (chain_at c.args.program.now c.args.states.now c.args.class)
    (length c.listings.result.now + 24 - c.loop.counter) c.loop.next c.loop.count (omega (arith, c.loop-test.false))
    c.loop.invariant.0)

pub returns-in_default-clause-chain : goal.returns-in_default-clause-chain
returns-in_default-clause-chain c =
    chain-found c.args.program.now c.args.states.now c.args.class c.loop.count _ c.requires.sized
    (walk-none (class_tables c.args.program.now) c.args.states.now
    (chain_at c.args.program.now c.args.states.now c.args.class)
    (length c.listings.result.now + 24 - c.loop.counter) c.loop.next c.loop.count c.in_default.is c.loop.invariant.0)

pub returns-in_default-clause-claimed : goal.returns-in_default-clause-claimed
returns-in_default-clause-claimed c =
    claim-found c.args.program.now c.args.states.now c.args.class c.loop.count _ c.requires.sized
    (walk-none (class_tables c.args.program.now) c.args.states.now
    (chain_at c.args.program.now c.args.states.now c.args.class)
    (length c.listings.result.now + 24 - c.loop.counter) c.loop.next c.loop.count c.in_default.is c.loop.invariant.0)
