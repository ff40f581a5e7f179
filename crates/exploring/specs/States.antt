use Rattle.std.specs.Prelude.{◌≡◌, ℕ, List, [], ◌∷◌, ◌++◌, reverse, slice_get, Bool, true, false, Some}
use Rattle.model.specs.Worlds.{World}
use Rattle.exploring.specs.declared.chains.Link.{Link}
use Rattle.exploring.specs.Chains.{Chains, IsChain, chained, started}
use Rattle.exploring.specs.Keys.{head, pieces, rest}

-- A set of states: each is kept as a chain of pieces, by its last link.

-- the names that a piece has by number, the chains, and the last links in the order in which the states came: the keys
pub record Stored : Type 0 where
  pub table : List (List ℕ)
  pub chains : Chains
  pub keys : List Link

-- the chains with that of a state as the one that is being made
abbrev pub with_state : List (List ℕ) → Chains → World → Chains
with_state table chains w = chained (started chains (head w)) (rest table w)

-- this is the key of a state
abbrev pub IsKey : List (List ℕ) → Chains → Link → World → Type 0
IsKey table chains l w = IsChain chains.pieces chains.links l (reverse (pieces table w))

abbrev pub AreKeys : List (List ℕ) → Chains → List Link → List World → Type 0
AreKeys table chains [] [] = Unit {0}
AreKeys table chains [] (w ∷ ws) = ⊥
AreKeys table chains (l ∷ ls) [] = ⊥
AreKeys table chains (l ∷ ls) (w ∷ ws) = IsKey table chains l w × AreKeys table chains ls ws

-- these are the states
abbrev pub HasStates : Stored → List World → Type 0
HasStates s states = AreKeys s.table s.chains s.keys states

abbrev pub IsOneOf : List World → World → Type 0
IsOneOf states w = (k : ℕ) × (slice_get states k ≡ Some w)

-- what becomes of the states where one is added that may be there
abbrev pub AddsState : Stored → List World → World → Bool → Type 0
AddsState s states w true = HasStates s (states ++ w ∷ [])
AddsState s states w false = HasStates s states × IsOneOf states w

-- a key is that of one state: so states are compared whole
abbrev pub KeysTell : Type 0
KeysTell = (table : List (List ℕ)) (chains : Chains) (l : Link) (v w : World) → IsKey table chains l v
    → IsKey table chains l w → v ≡ w
