use Rattle.std.proofs.Common.{rules}
use Rattle.instructions.proofs.Throwables.{throw_full_reported, throw_reported}
use Rattle.instructions.proofs.machines.Machine.throw.Goals as goal

pub returns-then-is_full-clause-step : goal.returns-then-is_full-clause-step
returns-then-is_full-clause-step c = λ scene here.
    throw_full_reported c.args.program.now scene c.args.self.now here c.args.reference c.args.kind
    c.target-target.result c.args.outcome
    c.requires.kind c.target-target.ensures.way (search rules)

pub returns-clause-step : goal.returns-clause-step
returns-clause-step c = λ scene here.
    throw_reported c.args.program.now scene c.args.self.now here c.land-course.new.self c.args.reference
    c.land-course.result c.args.outcome c.land-course.ensures.step
