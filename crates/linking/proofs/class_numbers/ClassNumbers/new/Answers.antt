use Rattle.std.proofs.Common.{◌∙◌, ap, map, position}
use Rattle.std.specs.Str.{bytes_eq}
use Rattle.std.proofs.lemmas.Cmp.{nat_list_eq_equiv}
use Rattle.linking.proofs.PlaceLemmas.{position-map}
use Rattle.linking.proofs.class_numbers.ClassNumbers.new.Goals as goal

pub invariant_of-result : goal.invariant_of-result
invariant_of-result c = record {
  names_are = c.in_ok-names.ensures;
  found = λ name.
      c.in_ok-numbers.ensures name
      ∙ ap (λ xs. position (λ x. bytes_eq x.bytes.now name.bytes.now) xs) c.deref.ensures.value
      ∙ position-map (λ x. x.bytes.now) (λ x. bytes_eq x name.bytes.now) c.in_ok-names.names.items
      ∙ (λ j. position (λ x. nat_list_eq_equiv.symm x name.bytes.now j)
      (map (λ x. x.bytes.now) c.in_ok-names.names.items))
      ∙ ap (position (bytes_eq name.bytes.now)) c.in_ok-names.ensures;
}
