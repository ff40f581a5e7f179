use Rattle.std.proofs.Common.{◌≡◌, ℕ, List, nat_le, Bool, true, false, Option, Some, None, refl, ◌∙◌, ap}
use Rattle.std.specs.Option.{option_map}
use Rattle.model.specs.Accounts.{Account, first_cell, or_larger, take_cell}
use Rattle.join.specs.Naming.{Naming}
use Rattle.join.specs.Joined.{named_account}

-- taking a cell doesn't look at the grey list, so the same cell is taken on both sides

abbrev pub named_taken : Naming → ℕ × Account → ℕ × Account
named_taken h cell = (cell.0, named_account h cell.1)

or_on_cells : (h : Naming) (fits : Bool) (put on : List ℕ → Account) (o : Option (ℕ × List ℕ))
    (further : Option (ℕ × Account)) → ((cs : List ℕ) → on cs ≡ named_account h (put cs))
    → or_larger fits on o (option_map (named_taken h) further)
    ≡ option_map (named_taken h) (or_larger fits put o further)
or_on_cells h true put on (Some cell) further k = ap (λ a. Some (cell.0, a)) (k cell.1)
or_on_cells h true put on None further k = refl
or_on_cells h false put on o further k = refl

pub take_on_cells : (h : Naming) (a : Account) (words : ℕ) → take_cell (named_account h a) words
    ≡ option_map (named_taken h) (take_cell a words)
take_on_cells h a words =
    let large = or_on_cells h (nat_le words 256) (λ cs. record a { large = cs })
    (λ cs. record (named_account h a) { large = cs }) (first_cell a.large) None (λ cs. refl) in
    let medium = or_on_cells h (nat_le words 32) (λ cs. record a { medium = cs })
    (λ cs. record (named_account h a) { medium = cs }) (first_cell a.medium)
    (or_larger (nat_le words 256) (λ cs. record a { large = cs }) (first_cell a.large) None) (λ cs. refl) in
    let small = or_on_cells h (nat_le words 4) (λ cs. record a { small = cs })
    (λ cs. record (named_account h a) { small = cs }) (first_cell a.small)
    (or_larger (nat_le words 32) (λ cs. record a { medium = cs }) (first_cell a.medium)
    (or_larger (nat_le words 256) (λ cs. record a { large = cs }) (first_cell a.large) None)) (λ cs. refl) in
    ap (λ o. or_larger (nat_le words 4) (λ cs. record (named_account h a) { small = cs }) (first_cell a.small)
    (or_larger (nat_le words 32) (λ cs. record (named_account h a) { medium = cs }) (first_cell a.medium) o)) large
    ∙ ap (λ o. or_larger (nat_le words 4) (λ cs. record (named_account h a) { small = cs }) (first_cell a.small) o)
    medium
    ∙ small
