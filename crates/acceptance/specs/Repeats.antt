use Rattle.std.specs.Prelude.{ℕ, List, ◌&&◌, Bool, false, cond, Option, Some, None, is_some}
use Rattle.std.specs.Map.{lookup}
use Rattle.std.specs.Str.{bytes_eq}
use Rattle.indexmap.specs.IndexMap.{get}
use Rattle.resolve.specs.declared.keys.NameKey.{NameKey}
use Rattle.acceptance.specs.declared.repeats.Repeats.{Repeats}

-- whether a key came again, if it came
abbrev pub again : {K : Type 0} → (K → K → Bool) → Repeats K → K → Option Bool
again eq r k = get eq r.came_again k

-- what is known of a key after one more
abbrev pub with_one_more : {K : Type 0} → (K → K → Bool) → K → (K → Option Bool) → K → Option Bool
with_one_more eq key known k = cond (eq key k) (Some (is_some (known key))) (known k)

abbrev pub is_again : Option Bool → Bool
is_again None = false
is_again (Some b) = b

-- whether a name came again
abbrev pub name_again : Repeats NameKey → List ℕ → Bool
name_again r name = is_again (lookup (λ k. bytes_eq name k.bytes.now) r.came_again.entries)

-- whether a name came again with a descriptor
abbrev pub signature_again : Repeats (NameKey × NameKey) → List ℕ → List ℕ → Bool
signature_again r name descriptor =
    is_again (lookup (λ k. bytes_eq name k.0.bytes.now && bytes_eq descriptor k.1.bytes.now) r.came_again.entries)
