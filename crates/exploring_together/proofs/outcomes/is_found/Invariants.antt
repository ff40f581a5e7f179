use Rattle.std.proofs.Common.{◌≡◌, drop, map}
use Rattle.std.specs.List.{list_any}
use Rattle.std.specs.Str.{bytes_eq}
use Rattle.exploring.specs.Explorations.{key_of}
use Rattle.exploring.specs.Keys.{outcome}
use Rattle.exploring_together.proofs.outcomes.is_found.Given as goal

-- it's among those that are left if it's among all
abbrev pub invariant-loop-each : goal.invariant-loop-each
invariant-loop-each l = list_any (bytes_eq (outcome l.wanted)) (map key_of (drop l.each-index l.found))
    ≡ list_any (bytes_eq (outcome l.wanted)) (map key_of l.found)
