use Rattle.std.proofs.Common.{◌≡◌, [], drop, map}
use Rattle.resolve.specs.Interfaces.{all_following, lists_in}
use Rattle.resolve.specs.Reached.{with_names}
use Rattle.resolve.proofs.interfaces.Interfaces.following.Given as goal

abbrev pub invariant-loop-name : goal.invariant-loop-name
invariant-loop-name l =
    with_names l.found (all_following (lists_in l.self.lists.entries) (map (λ name. name.bytes.now)
    (drop l.name-index l.name-items)))
    ≡ with_names [] (all_following (lists_in l.self.lists.entries) (map (λ name. name.bytes.now) l.name-items))
