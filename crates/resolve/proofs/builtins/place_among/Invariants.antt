use Rattle.std.proofs.Common.{map}
use Rattle.std.specs.List.{position}
use Rattle.std.specs.Str.{bytes_eq}
use Rattle.resolve.proofs.NumberLemmas.{IsLeft}
use Rattle.resolve.proofs.builtins.place_among.Given as goal

abbrev pub invariant-loop-place : goal.invariant-loop-place
invariant-loop-place l =
    IsLeft (λ b. bytes_eq l.name b.name.now) l.classes l.place
    (position (bytes_eq l.name) (map (λ b. b.name.now) l.classes))
