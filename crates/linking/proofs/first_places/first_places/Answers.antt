use Rattle.std.proofs.Common.{◌≡◌, ◌∙◌, ℕ, arith, ap, drop}
use Rattle.std.specs.List.{position_from}
use Rattle.linking.proofs.PlaceLemmas.{place-first}
use Rattle.linking.proofs.first_places.first_places.Goals as goal

pub returns : goal.returns
returns g c = λ key.
    let start : c.loop-place.place ≡ 0 = omega arith in
    c.loop-place.invariant key
    ∙ ap (λ (n : ℕ). position_from (λ k. g.K.PartialEq.eq k key) n (drop n c.args.keys.now)) start
    ∙ place-first (λ k. g.K.PartialEq.eq k key) c.args.keys.now
