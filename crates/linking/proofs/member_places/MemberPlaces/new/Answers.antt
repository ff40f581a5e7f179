use Rattle.std.proofs.Common.{◌∙◌, ℕ, List}
use Rattle.resolve.specs.declared.keys.NameKey.{NameKey}
use Rattle.linking.specs.MemberPlaces.{is_key, key_shown}
use Rattle.linking.proofs.PlaceLemmas.{position-map}
use Rattle.linking.proofs.member_places.MemberPlaces.new.Goals as goal

pub returns : goal.returns
returns c = λ key.
    let lent : List ℕ → NameKey = λ x. record { bytes = record { ref_ptr = c.args.keys.ref_ptr; now = x } } in
    c.in_ok-places.ensures ((lent key.class, lent key.name), lent key.descriptor)
    ∙ position-map key_shown (is_key key) c.args.keys.now
