-- Attributes that don't count are skipped, whatever stands in them.
use Rattle.std.proofs.Common.{◌≡◌, ℕ, ◌^◌, ◌<◌, false, List, [], ◌∷◌, ◌++◌, length, Option, Some, None, Ok, refl, sym}
use Rattle.std.proofs.Common.{ap, subst, ◌∙◌, append_assoc, arith, w16}
use Rattle.std.specs.List.{flat_map, AllByRecursion}
use Rattle.model.specs.ClassFiles.Numbers.{u2}
use Rattle.model.specs.ClassFiles.References.{text_at}
use Rattle.model.specs.ClassFiles.Attributes.{Attribute, attribute_bytes, attributes_bytes, AttributeFits, passes}
use Rattle.model.specs.declared.class_files.Entry.{Entry}
use Rattle.pool.specs.Reading.Steps.{number_at}
use Rattle.pool.proofs.Steps.{bind_ok}
use Rattle.pool.proofs.FieldLemmas.{IsBytes, Takes, Takes-then, wide16, number_takes, number_again}
use Rattle.classfile.specs.Reading.Attributes.{attributes_from, none_wanted, no_step, skipped_from}
use Rattle.classfile.proofs.AttributeLemmas.{Runs, attributes_take, attributes_again}

-- no attribute does anything
abbrev Does : ℕ → Attribute → ℕ → Type 0
Does s a t = ⊥

none_passes : (o : Option (List ℕ)) → passes none_wanted o ≡ false
none_passes None = refl
none_passes (Some text) = refl

all_skipped : (pool : List Entry) (attributes : List Attribute) → Runs pool none_wanted no_step Does 0 attributes 0
all_skipped pool [] = refl
all_skipped pool (a ∷ attributes) = rw (none_passes (text_at pool a.name)) (all_skipped pool attributes)

pub record AreSkipped (pool : List Entry) (bytes rest : List ℕ) : Type 0 where
  pub attributes : List Attribute
  pub few : length attributes < 2 ^ 16
  pub fit : AllByRecursion (AttributeFits pool) attributes
  pub takes : Takes bytes (attributes_bytes attributes) rest

pub skipped_takes : (pool : List Entry) (bytes : List ℕ) (x : ℕ × List ℕ) → IsBytes bytes → skipped_from pool bytes
    ≡ Ok x → AreSkipped pool bytes x.1
unfolding skipped_from
skipped_takes pool bytes x fits e =
    let b = bind_ok (number_at w16 bytes) (λ count. attributes_from pool none_wanted no_step count.0 0 count.1) x e in
    let t = number_takes w16 wide16 bytes b.0.0 b.0.1 fits b.1 in
    let r = attributes_take pool none_wanted no_step Does (λ s name more y f h. absurd cc) b.0.0 0 b.0.1 x t.0.rest_fits
    b.2 in
    record {
      attributes = r.attributes;
      few = omega (arith, r.number, t.1);
      fit = r.fit;
      takes = subst (λ k. Takes bytes (u2 k ++ flat_map attribute_bytes r.attributes) x.1) (sym r.number)
          (Takes-then bytes (u2 b.0.0) b.0.1 (flat_map attribute_bytes r.attributes) x.1 t.0 r.takes);
    }

pub skipped_again : (pool : List Entry) (attributes : List Attribute) (rest : List ℕ) → length attributes < 2 ^ 16
    → AllByRecursion (AttributeFits pool) attributes → skipped_from pool (attributes_bytes attributes ++ rest)
    ≡ Ok (0, rest)
unfolding skipped_from
skipped_again pool attributes rest few fit =
    ap (skipped_from pool) (append_assoc (u2 (length attributes)) (flat_map attribute_bytes attributes) rest)
    ∙ rw (number_again w16 wide16 (length attributes) (flat_map attribute_bytes attributes ++ rest) few)
    (attributes_again pool none_wanted no_step Does (λ s a t more does small. absurd does) attributes 0 0 rest fit
    (all_skipped pool attributes))
