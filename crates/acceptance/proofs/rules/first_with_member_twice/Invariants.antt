use Rattle.std.proofs.Common.{◌≡◌, drop}
use Rattle.std.specs.List.{find}
use Rattle.model.specs.Accepted.MembersTwice.{has_member_twice}
use Rattle.acceptance.proofs.rules.first_with_member_twice.Given as goal

abbrev pub invariant-loop-class : goal.invariant-loop-class
invariant-loop-class l = find has_member_twice (drop l.class-index l.program) ≡ find has_member_twice l.program
