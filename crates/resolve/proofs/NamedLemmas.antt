-- A class that a name finds has that name.
use Rattle.std.proofs.Common.{◌≡◌, ℕ, List, [], ◌∷◌, Bool, true, false, cond, Option, Some, None, Bor, IfSome, refl}
use Rattle.std.proofs.Common.{sym, subst}
use Rattle.std.specs.List.{find}
use Rattle.std.specs.Option.{option_copied}
use Rattle.std.specs.Str.{bytes_eq}
use Rattle.std.proofs.lemmas.Slice.Eq.{bytes_eq-Decides}
use Rattle.model.specs.ClassListings.{ClassListing}
use Rattle.model.specs.Classes.Named.{is_named}

abbrev pub HasName : List ℕ → Option ClassListing → Type 0
HasName name found = IfSome found (λ c. c.name ≡ name)

found-cond : (name : List ℕ) (b : Bool) (c : ClassListing) (rest : Option ClassListing) → (b ≡ true → c.name ≡ name)
    → HasName name rest
    → HasName name (cond b (Some c) rest)
found-cond name true c rest here there = here refl
found-cond name false c rest here there = there

pub found : (name : List ℕ) (cs : List ClassListing) → HasName name (find (is_named name) cs)
found name [] = tt
found name (c ∷ cs) = found-cond name (bytes_eq c.name name) c (find (is_named name) cs)
    (λ h. (bytes_eq-Decides c.name name).0 h) (found name cs)

borrowed : (name : List ℕ) (result : Option (Bor ClassListing)) → HasName name (option_copied result)
    → IfSome result (λ c. c.now.name ≡ name)
borrowed name None h = tt
borrowed name (Some c) h = h

pub named : (classes : List ClassListing) (name : List ℕ) (result : Option (Bor ClassListing)) → option_copied result
    ≡ find (is_named name) classes
    → IfSome result (λ c. c.now.name ≡ name)
named classes name result e = borrowed name result (subst (λ (c : Option ClassListing). HasName name c) (sym e)
    (found name classes))
