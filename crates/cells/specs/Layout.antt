use Rattle.std.specs.Prelude.{◌≡◌, ℕ, suc, ◌+◌, ◌≤◌, List, [], ◌∷◌, map, take, drop, Option, Some, None}
use Rattle.model.specs.declared.values.Value.{Value}
use Rattle.model.specs.declared.journals.HeapShape.{HeapShape}
use Rattle.cells.specs.declared.headers.Header.{Header}
use Rattle.cells.specs.Objects.{StoredObject, CellsValue}

-- How cells lie in one array of words.

-- the words that a cell's object uses
abbrev pub used_words : {K : Type 0} → List Value → Header K → List Value
used_words words h = take h.length (drop h.base words)

abbrev pub stored_as : {K : Type 0} → List Value → Header K → Option K → Option (StoredObject K)
stored_as used h None = None
stored_as used h (Some kind) = Some (record { kind = kind; words = used; monitor = h.monitor; thread = h.thread })

-- the object for which a header stands
abbrev pub stored_in : {K : Type 0} → List Value → Header K → Option (StoredObject K)
stored_in words h = stored_as (used_words words h) h h.kind

-- what contracts see of the headers and the words of a heap
abbrev pub cells_in : {K : Type 0} → HeapShape → List Value → List (Header K) → CellsValue K
cells_in shape words headers = record { shape = shape; objects = map (stored_in words) headers }

-- a cell begins at this word and has so much room, and its object lies within; nobody uses no word
pub record Stands {K : Type 0} (room from : ℕ) (h : Header K) : Type 0 where
  pub begins : h.base ≡ from
  pub room_is : h.room ≡ room
  pub fits : h.length ≤ room
  pub nobody : h.kind ≡ None → h.length ≡ 0

-- from this cell and word on, cells stand one after another, up to the end
abbrev pub AreLaidOut : {K : Type 0} → (ℕ → ℕ) → ℕ → ℕ → List (Header K) → ℕ → Type 0
AreLaidOut room cell from [] end = from ≡ end
AreLaidOut room cell from (h ∷ hs) end = Stands (room cell) from h
    × AreLaidOut room (suc cell) (from + room cell) hs end
