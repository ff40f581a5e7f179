use Rattle.std.proofs.Common.{◌≡◌, Some, None, true, false, ap, sym, rules, ◌∙◌}
use Rattle.std.specs.Prelude.{if◌then◌else◌}
use Rattle.model.specs.declared.turns.Fault.TheVariants.{WrongClass}
use Rattle.model.specs.Completions.Completion.{Faults, Throws}
use Rattle.instructions.specs.declared.kinds.Course.TheVariants.{Live}
use Rattle.instructions.specs.Acting.{shown, turned}
use Rattle.instructions.specs.Heaps.{kind_held}
use Rattle.instructions.specs.Throwing.{is_throwable, throws_kind}
use Rattle.instructions.proofs.ActingLemmas.{fault_reported}
use Rattle.instructions.proofs.CatchLemmas.{throwable-thrown}
use Rattle.instructions.proofs.Throwables.{throws_there}
use Rattle.instructions.proofs.machines.Machine.throw_object.Goals as goal

pub throw-requires-clause-thrown : goal.throw-requires-clause-thrown
throw-requires-clause-thrown c = throwable-thrown c.args.program.now c.in-Some.kind (search rules)

pub returns-in_default-clause-step : goal.returns-in_default-clause-step
returns-in_default-clause-step c = λ scene here.
    let m = c.args.self.now in
    let program = c.args.program.now in
    let x = shown program scene m Live in
    let is : kind_held m.heap c.args.reference ≡ None = search rules in
    fault_reported program scene m m here _
    ∙ sym (ap (λ o. turned program x m.thread (throws_kind program c.args.reference o)) is)

pub returns-then-is_throwable-clause-step : goal.returns-then-is_throwable-clause-step
returns-then-is_throwable-clause-step c = λ scene here.
    let m = c.args.self.now in
    let program = c.args.program.now in
    let x = shown program scene m Live in
    let r = c.args.reference in
    let is : kind_held m.heap r ≡ Some c.in-Some.kind = search rules in
    let yes : is_throwable program c.in-Some.kind ≡ true = search rules in
    c.throw.ensures.step scene here ∙ throws_there program scene m here r
    ∙ sym (ap (λ o. turned program x m.thread (throws_kind program r o)) is
    ∙ ap (λ b. turned program x m.thread (if b then Throws r else Faults WrongClass)) yes)

pub returns-else-is_throwable-clause-step : goal.returns-else-is_throwable-clause-step
returns-else-is_throwable-clause-step c = λ scene here.
    let m = c.args.self.now in
    let program = c.args.program.now in
    let x = shown program scene m Live in
    let r = c.args.reference in
    let is : kind_held m.heap r ≡ Some c.in-Some.kind = search rules in
    let other : is_throwable program c.in-Some.kind ≡ false = search rules in
    fault_reported program scene m m here _
    ∙ sym (ap (λ o. turned program x m.thread (throws_kind program r o)) is
    ∙ ap (λ b. turned program x m.thread (if b then Throws r else Faults WrongClass)) other)
