use Rattle.std.proofs.Common.{◌<◌, ◌≤◌, ◌∙◌, ◌++◌, ◌∷◌, [], List, length, take, ap, arith, sym}
use Rattle.resolve.proofs.IndexLemmas.{take-all}
use Rattle.model.specs.ClassListings.{ClassListing}
use Rattle.model.specs.Initialisation.{opening_states}
use Rattle.instructions.proofs.OpeningClaims.{opening-sized, states-next}
use Rattle.instructions.proofs.opening.opening_states.Goals as goal

pub loop-class-preserved : goal.loop-class-preserved
loop-class-preserved c =
    let p = c.args.program.now in
    let inside : c.loop-class.class < length p =
    omega (
      arith,
      c.loop-class-test.true,
      ap (λ (cs : List ClassListing). length cs) c.listings-class-end.ensures.listings,
    ) in
    c.in_ok-push.ensures.items ∙ ap (λ states. states ++ c.opening_state.result ∷ []) c.loop-class.invariant
    ∙ ap (λ state. take c.loop-class.class (opening_states p) ++ state ∷ []) c.opening_state.ensures
    ∙ sym (states-next p c.loop-class.class inside)

pub returns-clause-states : goal.returns-clause-states
returns-clause-states c =
    let p = c.args.program.now in
    let all : length (opening_states p) ≤ c.loop-class.class =
    omega (
      arith,
      c.loop-class-test.false,
      opening-sized p,
      ap (λ (cs : List ClassListing). length cs) c.listings-class-end.ensures.listings,
    ) in
    c.loop-class.invariant ∙ take-all (opening_states p) c.loop-class.class all
