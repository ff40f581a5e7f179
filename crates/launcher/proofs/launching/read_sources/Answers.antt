use Rattle.std.proofs.Common.{◌≡◌, ℕ, List, length, arith, subst, sym}
use Rattle.launcher.specs.Launching.{IsListing}
use Rattle.launcher.proofs.SourceLemmas.{all_read, one_more, refused_at}
use Rattle.launcher.proofs.launching.read_sources.Goals as goal

pub returns-in-Err : goal.returns-in-Err
returns-in-Err c = λ shape limits.
    refused_at c.args.sources.now c.loop-place.place c.index-sources-place.result c.loop-place.listings.items
    c.in-Err.error c.loop-place-test.true
    c.index-sources-place.is c.loop-place.invariant
    (λ may l is. c.in-Err.ensures.refused may l (subst (λ (s : List ℕ). IsListing s l) (sym c.as_slice.ensures.value)
    is))

pub loop-place-preserved : goal.loop-place-preserved
loop-place-preserved c =
    rw c.in-Ok-push.ensures.items
    (one_more c.args.sources.now c.loop-place.place c.index-sources-place.result c.loop-place.listings.items
    c.in-Ok.listing c.loop-place-test.true c.index-sources-place.is
    (subst (λ (s : List ℕ). IsListing s c.in-Ok.listing) c.as_slice.ensures.value c.in-Ok.ensures.found)
    c.loop-place.invariant)

pub returns : goal.returns
returns c =
    let at_end : c.loop-place.place ≡ length c.args.sources.now = omega (
      arith,
      c.loop-place.auto.place-end,
      c.loop-place-test.false,
    ) in
    all_read c.args.sources.now c.loop-place.place c.loop-place.listings.items at_end c.loop-place.invariant
