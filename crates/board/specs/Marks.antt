-- What a seat knows of each worker's count. A list of marks says nothing of the workers past its end.
use Rattle.std.specs.Prelude.{◌≡◌, ℕ, zero, suc, ◌≤◌, max, List, [], ◌∷◌, map, None, IfSome, Bool, option_map}
use Rattle.std.specs.Option.{option_or, is_some}
use Rattle.board.specs.declared.views.Mark.{Mark}

abbrev pub unmarked : Mark
unmarked = record { seen = 0; own = None }

abbrev pub mark_of : List Mark → ℕ → Mark
mark_of [] w = unmarked
mark_of (m ∷ ms) zero = m
mark_of (m ∷ ms) (suc w) = mark_of ms w

-- the mark of one worker changes
abbrev pub changed : (Mark → Mark) → List Mark → ℕ → List Mark
changed f [] zero = f unmarked ∷ []
changed f [] (suc w) = unmarked ∷ changed f [] w
changed f (m ∷ ms) zero = f m ∷ ms
changed f (m ∷ ms) (suc w) = m ∷ changed f ms w

-- the count was found to be n, or became n by the seat's own step
abbrev pub found : ℕ → Mark → Mark
found n m = record { seen = n; own = option_map (λ _. n) m.own }

-- the count is another seat's to change
abbrev pub released : Mark → Mark
released m = record { seen = m.seen; own = None }

abbrev pub without : List Mark → ℕ → List Mark
without ms w = changed released ms w

-- of all counts w's alone is the seat's to change
abbrev pub only : List Mark → ℕ → List Mark
only ms w = changed (λ _. mark_of ms w) (map released ms) w

abbrev pub joined : Mark → Mark → Mark
joined m n = record { seen = max m.seen n.seen; own = option_or m.own n.own }

-- what two seats know together
abbrev pub together : List Mark → List Mark → List Mark
together [] ns = ns
together (m ∷ ms) [] = m ∷ ms
together (m ∷ ms) (n ∷ ns) = joined m n ∷ together ms ns

-- the mark is right of a count
abbrev pub Stands : ℕ → Mark → Type 0
Stands n m = (m.seen ≤ n) × IfSome m.own (λ count. n ≡ count)

abbrev pub is_own : List Mark → ℕ → Bool
is_own ms w = is_some (mark_of ms w).own
