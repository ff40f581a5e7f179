use Rattle.std.proofs.Common.{ℕ, List, ap, ◌∙◌}
use Rattle.model.specs.ClassListings.{ClassListing}
use Rattle.resolve.specs.Reached.{is_one_below, with_names}
use Rattle.resolve.proofs.ReachedLemmas.{parents_below}
use Rattle.resolve.proofs.above.above_interfaces.Goals as goal

pub returns : goal.returns
returns c = λ x.
    let p : List ClassListing = c.args.index.now in
    c.in_ok-close.ensures x
    ∙ ap (λ (names : List (List ℕ)). is_one_below p names x) c.in_ok-add_interfaces.ensures
    ∙ ap (λ (names : List (List ℕ)). is_one_below p (with_names names c.deref.result.now) x) c.new-names.ensures
    ∙ parents_below p c.deref.result.now x
    ∙ ap (λ (names : List (List ℕ)). is_one_below p names x) c.deref.ensures.value
    ∙ ap (λ (c : ClassListing). is_one_below p c.interfaces x) c.class.view_is
