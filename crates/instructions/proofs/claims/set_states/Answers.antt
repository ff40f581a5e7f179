use Rattle.std.proofs.Common.{◌≡◌, ◌≤◌, ◌∙◌, ◌-◌, ◌+◌, List, Vec, length, ap, arith, set, subst, sym}
use Rattle.std.specs.Global.{Global}
use Rattle.std.proofs.lemmas.List.{set_past}
use Rattle.linking.specs.ClassFacts.{ClassFacts}
use Rattle.linking.specs.ClassTables.{class_tables, superclass_in}
use Rattle.model.specs.Initialisation.{with_states}
use Rattle.model.specs.declared.turns.ClassState.{ClassState}
use Rattle.instructions.specs.InitialisingByNumbers.{claimed}
use Rattle.instructions.proofs.ClaimFrames.{AreSet, length-with_states, set-next, set-none, set-over}
use Rattle.instructions.proofs.claims.set_states.Goals as goal
use Rattle.instructions.proofs.claims.set_states.Goals.{in-Some, then-class-len, else-class-len, in_default}

pub loop-preserved : goal.loop-preserved
loop-preserved c =
    let whole = with_states c.args.state (claimed c.args.program.now c.args.class c.args.count) c.args.states.now.items
    in
    elim c.match-next.branch [
      | in-Some w ↦
          let above_is : c.match-next.next ≡ superclass_in (class_tables c.args.program.now) w.in-Some.class =
          w.next-is ∙ w.superclass-next.ensures
          ∙ ap (λ (classes : List ClassFacts). superclass_in classes w.in-Some.class) w.tables.ensures.classes_are in
          let next =
          set-next c.args.program.now c.args.state whole c.loop.counter c.args.count c.loop.next c.match-next.next
          w.in-Some.class c.loop.states.items c.loop-test.true w.in-Some.is above_is c.loop.invariant in
          let same : c.match-next.states.items ≡ set c.loop.states.items w.in-Some.class c.args.state =
          ap (λ (states : Vec ClassState Global). states.items) w.states-is
          ∙ elim w.if-class-len.branch [
            | then-class-len w2 ↦ ap (λ (states : Vec ClassState Global). states.items) w2.states-is
            | else-class-len w2 ↦
                let past : length c.loop.states.items ≤ w.in-Some.class =
                omega (arith, w2.if-class-len.false, w.len.ensures, c.loop.states.ok.0) in
                ap (λ (states : Vec ClassState Global). states.items) w2.states-is
                ∙ sym (set_past c.loop.states.items w.in-Some.class c.args.state past)
          ] in
          subst (λ (states : List ClassState). AreSet c.args.program.now c.args.state whole
          (c.args.count - (c.loop.counter + 1)) c.match-next.next states) (sym same) next
      | in_default w ↦
          subst (λ (states : Vec ClassState Global). AreSet c.args.program.now c.args.state whole
          (c.args.count - (c.loop.counter + 1)) c.match-next.next states.items) (sym w.states-is)
          (set-none c.args.program.now c.args.state whole (c.args.count - c.loop.counter)
          (c.args.count - (c.loop.counter + 1)) c.loop.next c.match-next.next c.loop.states.items w.in_default.is
          w.next-is c.loop.invariant)
    ]

pub returns-clause-states : goal.returns-clause-states
returns-clause-states c =
    set-over c.args.program.now c.args.state _ (c.args.count - c.loop.counter) c.loop.next c.loop.states.items
    (omega (arith, c.loop-test.false)) c.loop.invariant

pub returns-clause-sized : goal.returns-clause-sized
returns-clause-sized c =
    ap (λ (states : List ClassState). length states)
    (set-over c.args.program.now c.args.state _ (c.args.count - c.loop.counter) c.loop.next c.loop.states.items
    (omega (arith, c.loop-test.false)) c.loop.invariant)
    ∙ length-with_states c.args.state (claimed c.args.program.now c.args.class c.args.count) c.args.states.now.items
