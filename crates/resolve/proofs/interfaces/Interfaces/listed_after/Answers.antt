use Rattle.std.proofs.Common.{[], List, ℕ, ap, ◌∙◌}
use Rattle.resolve.specs.Interfaces.{all_following, lists_in}
use Rattle.resolve.specs.Reached.{with_names}
use Rattle.resolve.proofs.InterfaceLemmas.{following-once}
use Rattle.resolve.proofs.interfaces.Interfaces.listed_after.Goals as goal

pub returns-in-Ok : goal.returns-in-Ok
returns-in-Ok c =
    c.in-Ok.ensures
    ∙ ap (λ (names : List (List ℕ)). with_names [] (all_following (lists_in c.args.self.now.lists.entries) names))
    (c.in_ok-add_interfaces.ensures
    ∙ ap (λ (names : List (List ℕ)). with_names names c.args.interfaces.now) c.new-names.ensures)
    ∙ following-once (lists_in c.args.self.now.lists.entries) c.args.interfaces.now
