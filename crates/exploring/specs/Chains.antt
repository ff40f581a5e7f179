use Rattle.std.specs.Prelude.{◌≡◌, ℕ, ◌+◌, ◌&&◌, Bool, nat_eq, List, [], ◌∷◌, slice_get, Some}
use Rattle.std.specs.List.{position_or_len}
use Rattle.std.specs.Str.{bytes_eq}
use Rattle.indexmap.specs.IndexSet.{insert_key}
use Rattle.exploring.specs.declared.chains.Link.{Link}

-- Chains of pieces, which share what they begin with. A piece is a row of bytes; it and a link are known by their numbers.

-- the pieces, the links, and the last link of the chain that is being made, which is kept once the chain goes on
pub record Chains : Type 0 where
  pub pieces : List (List ℕ)
  pub links : List Link
  pub last : Link

abbrev pub is_same : Link → Link → Bool
is_same l m = nat_eq l.before m.before && nat_eq l.piece m.piece

-- ---- how they are made: pieces and links are kept once

abbrev pub started : Chains → List ℕ → Chains
started c x = record {
  pieces = insert_key bytes_eq c.pieces x;
  links = c.links;
  last = record { before = 0; piece = position_or_len (bytes_eq x) c.pieces };
}

abbrev pub one_more : Chains → List ℕ → Chains
one_more c x = record {
  pieces = insert_key bytes_eq c.pieces x;
  links = insert_key is_same c.links c.last;
  last = record {
    before = position_or_len (is_same c.last) c.links + 1;
    piece = position_or_len (bytes_eq x) c.pieces;
  };
}

abbrev pub chained : Chains → List (List ℕ) → Chains
chained c [] = c
chained c (x ∷ xs) = chained (one_more c x) xs

-- ---- what they say

-- these pieces, the last one first, come before a link that has this number for what is before it
abbrev pub IsBefore : List (List ℕ) → List Link → ℕ → List (List ℕ) → Type 0
IsBefore pieces links n [] = n ≡ 0
IsBefore pieces links n (x ∷ xs) = (k : ℕ) × (l : Link) × (n ≡ k + 1) × (slice_get links k ≡ Some l)
    × (slice_get pieces l.piece ≡ Some x) × IsBefore pieces links l.before xs

-- these are the pieces of a chain with this last link, the last one first
abbrev pub IsChain : List (List ℕ) → List Link → Link → List (List ℕ) → Type 0
IsChain pieces links l [] = ⊥
IsChain pieces links l (x ∷ xs) = (slice_get pieces l.piece ≡ Some x) × IsBefore pieces links l.before xs
