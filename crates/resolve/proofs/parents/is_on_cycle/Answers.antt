use Rattle.std.proofs.Common.{ℕ, List, ◌∙◌, ap}
use Rattle.model.specs.ClassListings.{ClassListing}
use Rattle.model.specs.Classes.Named.{parents_of}
use Rattle.model.specs.Accepted.Cycles.{is_on_cycle}
use Rattle.resolve.specs.Reached.{is_one_below, with_names}
use Rattle.resolve.proofs.ReachedLemmas.{parents_below}
use Rattle.resolve.proofs.parents.is_on_cycle.Goals as goal

pub returns : goal.returns
unfolding is_on_cycle
returns c =
    let above : List ℕ = c.as_bytes.result.now in
    c.has.ensures
    ∙ c.in_ok-close.ensures above
    ∙ ap (λ (names : List (List ℕ)). is_one_below c.args.index.now names above) c.in_ok-add_parents.ensures
    ∙ ap (λ (names : List (List ℕ)). is_one_below c.args.index.now (with_names names (parents_of c.args.class.now))
    above) c.new-reached.ensures
    ∙ parents_below c.args.index.now (parents_of c.args.class.now) above
    ∙ ap (λ (name : List ℕ). is_one_below c.args.index.now (parents_of c.args.class.now) name)
    (c.as_bytes.ensures ∙ ap (λ (x : ClassListing). x.name) c.class.view_is)
