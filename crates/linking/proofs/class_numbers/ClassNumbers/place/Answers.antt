use Rattle.std.proofs.Common.{◌≡◌, ◌∙◌, List, ap, length, sym}
use Rattle.std.specs.Option.{unwrap_or}
use Rattle.std.specs.Str.{bytes_eq}
use Rattle.std.proofs.lemmas.List.{length-map}
use Rattle.model.specs.ClassListings.{ClassListing}
use Rattle.resolve.specs.Numbers.{class_names}
use Rattle.linking.proofs.PlaceLemmas.{place-or}
use Rattle.linking.proofs.class_numbers.ClassNumbers.place.Goals as goal

pub returns : goal.returns
returns c =
    let program : List ClassListing = c.args.self.now in
    let many : length c.names.result.now ≡ length (class_names program) =
    sym (length-map c.names.result.now (λ n. n.bytes.now)) ∙ ap length c.names.ensures in
    c.unwrap_or.ensures
    ∙ ap (unwrap_or c.number.result) many
    ∙ ap (λ o. unwrap_or o (length (class_names program))) c.number.ensures
    ∙ place-or (bytes_eq c.args.name.now) (class_names program)
