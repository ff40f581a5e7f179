use Rattle.std.proofs.Common.{◌≡◌, map, take}
use Rattle.model.specs.Words.{unwritten}
use Rattle.ideal_run.proofs.objects.all_unwritten.Given as goal

-- the fields so far
abbrev pub invariant-loop-found : goal.invariant-loop-found
invariant-loop-found l = l.fields.items ≡ map unwritten (take l.found-index l.layout)
