use Rattle.std.proofs.Common.{◌≡◌, ℕ, ◌+◌, List, [], ◌∷◌, length, slice_get, nat_lt, true, false, Option, Some, None}
use Rattle.std.proofs.Common.{refl}
use Rattle.model.specs.declared.colours.Phase.TheVariants.{Mark, Append}
use Rattle.model.specs.Accounts.{Account}
use Rattle.model.specs.Worlds.{World}
use Rattle.model.specs.Collector.Places.{words_of, word_at}
use Rattle.model.specs.Collector.Table.{at_phase}
use Rattle.join.specs.TurnsOnCells.{birth_in, shade_cell_if, mark_on}
use Rattle.colours.specs.Births.{taken_cell, born_in, front_blackened}

-- What a turn on cells does to the account, by the calls that make it.

-- ---- marking, by the front reference

pub mark_ends : (w : World) (a : Account) (q : ℕ) → slice_get a.grey 0 ≡ None → mark_on w a q a.grey
    ≡ at_phase a (Append 0)
mark_ends w a q e = go a.grey e
  where
    go : (grey : List ℕ) → slice_get grey 0 ≡ None → mark_on w a q grey ≡ at_phase a (Append 0)
    go [] e = refl
    go (x ∷ grey) e = absurd (cc)

-- a word of the front object is looked at
pub mark_looks : (w : World) (a : Account) (q r : ℕ) → slice_get a.grey 0 ≡ Some r
    → nat_lt q (length (words_of w.objects r)) ≡ true → mark_on w a q a.grey
    ≡ at_phase (shade_cell_if a (word_at w r q)) (Mark (q + 1))
mark_looks w a q r e = go a.grey e
  where
    go : (grey : List ℕ) → slice_get grey 0 ≡ Some r → nat_lt q (length (words_of w.objects r)) ≡ true
        → mark_on w a q grey ≡ at_phase (shade_cell_if a (word_at w r q)) (Mark (q + 1))
    go [] e l = absurd (cc)
    go (x ∷ grey) e l = let s : x ≡ r = cc in rw (s, l) refl

-- all its words were
pub mark_blackens : (w : World) (a : Account) (q r : ℕ) → slice_get a.grey 0 ≡ Some r
    → nat_lt q (length (words_of w.objects r)) ≡ false → mark_on w a q a.grey
    ≡ at_phase (front_blackened a a.grey) (Mark 0)
mark_blackens w a q r e = go a.grey e
  where
    go : (grey : List ℕ) → slice_get grey 0 ≡ Some r → nat_lt q (length (words_of w.objects r)) ≡ false
        → mark_on w a q grey ≡ at_phase (front_blackened a grey) (Mark 0)
    go [] e l = absurd (cc)
    go (x ∷ grey) e l = let s : x ≡ r = cc in rw (s, l) refl

-- ---- a new object, by the cell that is reported

pub none_taken : (o : Option (ℕ × Account)) → None ≡ taken_cell o → o ≡ None
none_taken None e = refl
none_taken (Some taken) e = absurd (cc)

pub one_taken : (a : Account) (birth c : ℕ) (o : Option (ℕ × Account)) → Some c ≡ taken_cell o → (b : Account)
    × (o ≡ Some (c, b)) × (born_in a birth o ≡ birth_in b c birth)
one_taken a birth c None e = absurd (cc)
one_taken a birth c (Some taken) e = let s : taken.0 ≡ c = cc in (taken.1, rw (← s) refl, rw (← s) refl)
