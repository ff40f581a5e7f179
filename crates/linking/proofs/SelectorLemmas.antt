-- Names with descriptors as keys of a set, and as what they are.
use Rattle.std.proofs.Common.{◌≡◌, ◌+◌, List, [], ◌∷◌, ◌++◌, map, length, nat_lt, position, Bool, true, false, cond}
use Rattle.std.proofs.Common.{not, ◌||◌, if◌then◌else◌, Some, None, refl, ap, sym, ◌∙◌}
use Rattle.std.proofs.lemmas.List.{length-map, map-append}
use Rattle.std.specs.List.{list_any, position_or_len, prefix_len}
use Rattle.model.specs.Signatures.{argument_kinds}
use Rattle.resolve.specs.declared.keys.NameKey.{NameKey}
use Rattle.linking.specs.Selectors.{Signature, is_signature, with_signature}

abbrev pub Key : Type 0
Key = NameKey × NameKey

abbrev pub signature : Key → Signature
signature k = (k.0.bytes.now, k.1.bytes.now)

any-map : (test : Signature → Bool) (ks : List Key) → list_any (λ k. test (signature k)) ks
    ≡ list_any test (map signature ks)
any-map test [] = refl
any-map test (k ∷ ks) = ap (λ b. test (signature k) || b) (any-map test ks)

map-if : (b : Bool) (ks : List Key) (k : Key)
    → map signature (if b then ks else ks ++ k ∷ []) ≡ (if b then map signature ks else map signature ks ++ signature k
    ∷ [])
map-if true ks k = refl
map-if false ks k = map-append signature ks (k ∷ [])

pub with_signature-map : (ks : List Key) (k : Key)
    → map signature (if list_any (λ x. is_signature (signature k) (signature x)) ks then ks else ks ++ k ∷ [])
    ≡ with_signature (map signature ks) (signature k)
with_signature-map ks k =
    map-if (list_any (λ x. is_signature (signature k) (signature x)) ks) ks k
    ∙ ap (λ b. if b then map signature ks else map signature ks ++ signature k ∷ [])
    (any-map (is_signature (signature k)) ks)

prefix-map : (test : Signature → Bool) (ks : List Key) → prefix_len (λ k. test (signature k)) ks
    ≡ prefix_len test (map signature ks)
prefix-map test [] = refl
prefix-map test (k ∷ ks) = ap (λ n. cond (test (signature k)) (1 + n) 0) (prefix-map test ks)

pub place-map : (test : Signature → Bool) (ks : List Key) → position (λ k. test (signature k)) ks
    ≡ position test (map signature ks)
place-map test ks =
    ap (λ n. cond (nat_lt n (length ks)) (Some n) None) (prefix-map (λ s. not (test s)) ks)
    ∙ ap (λ n. cond (nat_lt (position_or_len test (map signature ks)) n)
    (Some (position_or_len test (map signature ks))) None) (sym (length-map ks signature))

-- the kinds of the arguments of each
pub kinds-map : (ks : List Key)
    → map (λ (k : Key). argument_kinds k.1.bytes.now) ks ≡ map (λ (s : Signature). argument_kinds s.1)
    (map signature ks)
kinds-map [] = refl
kinds-map (k ∷ ks) = ap (λ kinds. argument_kinds k.1.bytes.now ∷ kinds) (kinds-map ks)
