use Rattle.std.proofs.Common.{◌≡◌, vec_len}
use Rattle.commands.proofs.carriers.roles_of.Given as goal

abbrev pub invariant-loop-carrier : goal.invariant-loop-carrier
invariant-loop-carrier l = vec_len l.roles ≡ l._carrier
