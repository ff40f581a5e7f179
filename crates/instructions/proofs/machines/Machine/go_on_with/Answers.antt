use Rattle.std.proofs.Common.{◌≤◌, ◌<◌, ◌-◌, ◌∷◌, [], refl, ap, sym, ◌∙◌, arith}
use Rattle.model.specs.Frames.{callers, running_frame}
use Rattle.model.specs.Table.Returns.{resumes}
use Rattle.model.specs.Values.{units_of, units_of_all}
use Rattle.frames.specs.declared.heads.FrameHead.{FrameHead}
use Rattle.model.specs.declared.turns.ClassState.TheVariants.{Done}
use Rattle.instructions.specs.declared.kinds.Course.TheVariants.{Live}
use Rattle.instructions.specs.declared.machines.Machine.{Machine}
use Rattle.instructions.specs.Acting.{shown, site_at, turned}
use Rattle.instructions.proofs.ActingLemmas.{fault_reported}
use Rattle.instructions.proofs.ReturnLemmas.{gives_result, left-keeps, result_full}
use Rattle.instructions.proofs.machines.Machine.go_on_with.Goals as goal

pub returns-then-saturating_sub-units_of-clause-step : goal.returns-then-saturating_sub-units_of-clause-step
returns-then-saturating_sub-units_of-clause-step c = λ n scene here.
    let m = c.args.self.now in
    let program = c.args.program.now in
    let x = shown program scene m Live in
    let s = site_at program m x.world n in
    let below = running_frame (callers m.frames) in
    let room = ap (λ (head : FrameHead). head.room) c.requires.caller.is in
    let taken = ap (λ (head : FrameHead). head.taken) c.requires.caller.is in
    let full : below.room - units_of_all below.stack < units_of c.args.value = omega arith in
    fault_reported program scene m m here _
    ∙ sym (ap (λ r. turned program x m.thread (resumes s r)) (result_full c.args.next below c.args.value full))

pub returns-clause-step : goal.returns-clause-step
returns-clause-step c = λ n scene here.
    let m = c.args.self.now in
    let left = c.leave_frame.new.self in
    let below = running_frame (callers m.frames) in
    let room = ap (λ (head : FrameHead). head.room) c.requires.caller.is in
    let taken = ap (λ (head : FrameHead). head.taken) c.requires.caller.is in
    let fits : units_of c.args.value ≤ below.room - units_of_all below.stack = omega arith in
    let after : Machine = record {
      thread = left.thread;
      frames = c.put_result.new.frames;
      slots = left.slots;
      states = left.states;
      heap = c.shade.new.self;
      output = left.output;
    } in
    rw c.to.ensures
    (gives_result c.args.program.now scene m left after here c.leave_frame.ensures.left refl refl refl n c.args.next
    c.args.value fits
    c.leave_frame.ensures.frames c.put_result.ensures (c.shade.ensures ∙ rw c.reference_of.ensures refl))

pub returns-clause-keeps : goal.returns-clause-keeps
returns-clause-keeps c =
    let m = c.args.self.now in
    let left = c.leave_frame.new.self in
    let after : Machine = record {
      thread = left.thread;
      frames = c.put_result.new.frames;
      slots = left.slots;
      states = left.states;
      heap = c.shade.new.self;
      output = left.output;
    } in
    left-keeps c.args.program.now Done (running_frame m.frames ∷ []) m left after _ c.leave_frame.ensures.left refl refl
    refl refl c.shade.ensures
