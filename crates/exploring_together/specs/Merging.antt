use Rattle.std.specs.Prelude.{List, [], ◌∷◌, map}
use Rattle.model.specs.declared.journals.Limits.{Limits}
use Rattle.model.specs.ClassListings.{ClassListing}
use Rattle.exploring.specs.declared.explored.Move.{Move}
use Rattle.exploring.specs.Explorations.{AreSoundAfter, Finding, Outcomes, key_of, noted}

-- Findings of several explorations together.

abbrev pub with_keys : List Finding → Outcomes
with_keys found = record { keys = map key_of found; found = found }

-- one more, unless its outcome was found
abbrev pub with_one : List Finding → Finding → List Finding
with_one found one = (noted (with_keys found) one.outcome one.moves).found

-- and others after it
abbrev pub with_all : List Finding → List Finding → List Finding
with_all found [] = found
with_all found (one ∷ more) = with_all (with_one found one) more

-- what is sound of two lists of findings is sound of what they became
abbrev pub StaySound : List Finding → List Finding → List Finding → Type 0
StaySound some more all = (program : List ClassListing) (limits : Limits) (first : List Move)
    → AreSoundAfter program limits first some → AreSoundAfter program limits first more
    → AreSoundAfter program limits first all
