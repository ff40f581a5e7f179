use Rattle.std.proofs.Common.{◌≡◌, ◌⊎◌, inl, inr, ℕ, ◌+◌, ◌<◌, ◌≤◌, ◌↔◌, Bool, true, false, if◌then◌else◌, List, []}
use Rattle.std.proofs.Common.{◌∷◌, Option, is_some, IsTrue, nat_le, nat_lt, refl, arith, ltb-true, ltb-false}
use Rattle.std.proofs.lemmas.Bool.{leb-true, le-leb, lt-ltb, le-ltb}
use Rattle.model.specs.declared.journals.HeapShape.{HeapShape}
use Rattle.model.specs.Accounts.{Account, first_cell, or_larger, has_room}
use Rattle.model.specs.Room.{words_of_cell, Room}
use Rattle.model.specs.Collector.Invariant.{In, Spare, Tidy}

-- some free cell has so many words exactly where the lists of free cells have one

-- ---- a list gives a cell where it has one of the size, or where the greater sizes do

listed_gives : (without : List ℕ → Account) (free : List ℕ) (larger : Option (ℕ × Account)) (c : ℕ) → In c free
    → (fits : Bool) → fits ≡ true → IsTrue (is_some (or_larger fits without (first_cell free) larger))
listed_gives without [] larger c h fits e = absurd h
listed_gives without (d ∷ ds) larger c h true e = refl
listed_gives without (d ∷ ds) larger c h false e = absurd (cc)

larger_gives : (without : List ℕ → Account) (free : List ℕ) (larger : Option (ℕ × Account)) (fits : Bool)
    → IsTrue (is_some larger) → IsTrue (is_some (or_larger fits without (first_cell free) larger))
larger_gives without (d ∷ ds) larger true h = refl
larger_gives without [] larger true h = h
larger_gives without free larger false h = h

given_by : (without : List ℕ → Account) (free : List ℕ) (larger : Option (ℕ × Account)) (fits : Bool)
    → IsTrue (is_some (or_larger fits without (first_cell free) larger))
    → ((fits ≡ true) × ((c : ℕ) × In c free)) ⊎ IsTrue (is_some larger)
given_by without (c ∷ cs) larger true h = inl (refl, (c, inl refl))
given_by without [] larger true h = inr h
given_by without free larger false h = inr h

-- ---- a free cell is in the list of its size

room_listed : (shape : HeapShape) (n : ℕ) (a : Account) (words : ℕ) → Tidy shape n a → Room shape a words
    → IsTrue (has_room a words)
room_listed shape n a words h r = go _ _ refl refl r.fits
  where
    go : (small medium : Bool) → nat_lt r.cell shape.small ≡ small → nat_lt r.cell (shape.small + shape.medium) ≡ medium
        → words ≤ (if small then 4 else if medium then 32 else 256) → IsTrue (has_room a words)
    go true medium e f le =
        listed_gives _ a.small _ r.cell (h.small.listed r.cell (omega arith) (ltb-true _ _ e) r.is_free)
        (nat_le words 4) (le-leb words 4 le)
    go false true e f le =
        larger_gives _ a.small _ (nat_le words 4) (
        listed_gives _ a.medium _ r.cell (h.medium.listed r.cell (ltb-false _ _ e) (ltb-true _ _ f) r.is_free)
        (nat_le words 32) (le-leb words 32 le))
    go false false e f le =
        larger_gives _ a.small _ (nat_le words 4) (
        larger_gives _ a.medium _ (nat_le words 32) (
        listed_gives _ a.large _ r.cell (h.large.listed r.cell (ltb-false _ _ f) r.within r.is_free) (nat_le words 256)
        (le-leb words 256 le)))

-- ---- what a list has is a free cell of its size

words_small : (shape : HeapShape) (c : ℕ) → c < shape.small → words_of_cell shape c ≡ 4
words_small shape c u = rw (lt-ltb c shape.small u) refl

words_medium : (shape : HeapShape) (c : ℕ) → shape.small ≤ c → c < shape.small + shape.medium → words_of_cell shape c
    ≡ 32
words_medium shape c l u = rw (le-ltb c shape.small l, lt-ltb c (shape.small + shape.medium) u) refl

words_large : (shape : HeapShape) (c : ℕ) → shape.small + shape.medium ≤ c → words_of_cell shape c ≡ 256
words_large shape c l = rw (le-ltb c shape.small (omega arith), le-ltb c (shape.small + shape.medium) l) refl

-- in a list of cells of this size
room_in : (shape : HeapShape) (a : Account) (words first past size c : ℕ) (free : List ℕ)
    → Spare a.cells first past free → past ≤ shape.small + shape.medium + shape.large
    → (first ≤ c → c < past → words_of_cell shape c ≡ size) → words ≤ size → In c free → Room shape a words
room_in shape a words first past size c free h le is fits k =
    let f = h.fits c k in
    record { cell = c; within = (let u = f.1 in omega arith); is_free = h.unused c k; fits = rw (is f.0 f.1) fits }

listed_room : (shape : HeapShape) (n : ℕ) (a : Account) (words : ℕ) → Tidy shape n a → IsTrue (has_room a words)
    → Room shape a words
listed_room shape n a words h r =
    elim (given_by _ a.small _ (nat_le words 4) r) [
      | inl k ↦ room_in shape a words _ _ 4 k.1.0 a.small h.small (omega arith) (λ l u. words_small shape k.1.0 u)
          (leb-true words 4 k.0) k.1.1
      | inr s ↦ elim (given_by _ a.medium _ (nat_le words 32) s) [
        | inl k ↦ room_in shape a words _ _ 32 k.1.0 a.medium h.medium (omega arith)
            (λ l u. words_medium shape k.1.0 l u) (leb-true words 32 k.0) k.1.1
        | inr t ↦ elim (given_by _ a.large _ (nat_le words 256) t) [
          | inl k ↦ room_in shape a words _ _ 256 k.1.0 a.large h.large (omega arith) (λ l u. words_large shape k.1.0 l)
              (leb-true words 256 k.0) k.1.1
          | inr o ↦ absurd (cc)
        ]
      ]
    ]

pub room_is_listed : (shape : HeapShape) (n : ℕ) (a : Account) (words : ℕ) → Tidy shape n a → Room shape a words
    ↔ IsTrue (has_room a words)
room_is_listed shape n a words h = (room_listed shape n a words h, listed_room shape n a words h)
