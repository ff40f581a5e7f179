use Rattle.std.proofs.Common.{◌≡◌, ℕ, zero, suc, ◌+◌, ◌-◌, ◌<◌, ◌≤◌, nat_lt, length, take, get_or, List, true, false}
use Rattle.std.proofs.Common.{Option, Some, None, refl, arith, ◌∙◌, sym}
use Rattle.std.proofs.lemmas.Bool.{lt-ltb}
use Rattle.std.proofs.lemmas.Bool.Decides.{nat_tests}
use Rattle.std.proofs.lemmas.List.{take_all}
use Rattle.std.proofs.lemmas.Option.{slice_get_past, slice_get_read}
use Rattle.std.specs.List.{find}
use Rattle.model.specs.ClassListings.{ClassListing}
use Rattle.model.specs.Classes.Named.{listed, or_else}
use Rattle.model.specs.Accepted.LimitsOfClasses.{own_fields, fields_within, is_too_large, first_past_limits}

-- ---- the fields of a class and those above it

fields_within-none : (steps : ℕ) (program : List ClassListing) → fields_within steps program None ≡ 0
unfolding fields_within
fields_within-none zero program = refl
fields_within-none (suc n) program = refl

fields_within-zero : (program : List ClassListing) (c : ClassListing) → fields_within 0 program (Some c) ≡ own_fields c
unfolding fields_within
fields_within-zero program c = refl

fields_within-more : (steps : ℕ) (program : List ClassListing) (c : ClassListing) → 0 < steps
    → fields_within steps program (Some c) ≡ own_fields c + fields_within (steps - 1) program
    (listed program c.superclass)
unfolding fields_within
fields_within-more zero program c some = absurd (omega arith)
fields_within-more (suc n) program c some = let e : suc n - 1 ≡ n = omega arith in rw e

own_fields-within : (steps : ℕ) (program : List ClassListing) (c : ClassListing)
    → own_fields c ≤ fields_within steps program (Some c)
unfolding fields_within
own_fields-within zero program c = omega arith
own_fields-within (suc n) program c = omega arith

nat_lt-past : (room own rest : ℕ) → own ≤ room → nat_lt (room - own) rest ≡ nat_lt room (own + rest)
nat_lt-past room own rest within = grind (arith, nat_tests)

nat_lt-not : (room own : ℕ) → own ≤ room → false ≡ nat_lt room own
nat_lt-not room own within = grind (arith, nat_tests)

-- the class's own fields are too many
pub own_fields-too_many : (steps room own : ℕ) (program : List ClassListing) (c : ClassListing) → own ≡ own_fields c
    → room < own
    → true ≡ nat_lt room (fields_within steps program (Some c))
own_fields-too_many steps room own program c is more =
    let e : room < fields_within steps program (Some c) = omega (arith, own_fields-within steps program c) in
    sym (lt-ltb room (fields_within steps program (Some c)) e)

pub no_steps-fields : (room own : ℕ) (program : List ClassListing) (c : ClassListing) → own ≡ own_fields c → own ≤ room
    → false ≡ nat_lt room (fields_within 0 program (Some c))
no_steps-fields room own program c is within = rw (fields_within-zero program c, ← is) (nat_lt-not room own within)

pub inherited-fields : (steps room own : ℕ) (program : List ClassListing) (c superclass : ClassListing) (name : List ℕ)
    → 0 < steps
    → own ≡ own_fields c → own ≤ room → name ≡ c.superclass → Some superclass ≡ listed program name
    → nat_lt (room - own) (fields_within (steps - 1) program (Some superclass))
    ≡ nat_lt room (fields_within steps program (Some c))
inherited-fields steps room own program c superclass name some is within named found =
    nat_lt-past room own (fields_within (steps - 1) program (Some superclass)) within
    ∙ rw (fields_within-more steps program c some, ← is, ← named, ← found)

pub no_inherited-fields : (steps room own : ℕ) (program : List ClassListing) (c : ClassListing) (name : List ℕ)
    → 0 < steps
    → own ≡ own_fields c → own ≤ room → name ≡ c.superclass → None ≡ listed program name
    → false ≡ nat_lt room (fields_within steps program (Some c))
no_inherited-fields steps room own program c name some is within named none =
    let e : own + 0 ≡ own = omega arith in
    rw (
      fields_within-more steps program c some,
      ← is,
      ← named,
      ← none,
      fields_within-none (steps - 1) program,
      e,
    ) (nat_lt-not room own within)

-- ---- the first class past a limit

or_else-none : (o : Option ClassListing) → or_else o None ≡ o
or_else-none None = refl
or_else-none (Some c) = refl

pub first_past_limits-few : (program : List ClassListing) → length program ≤ 256
    → find (is_too_large program) program ≡ first_past_limits program
unfolding first_past_limits
first_past_limits-few program few =
    sym (rw (take_all 256 program few, slice_get_past program 256 few)
    (or_else-none (find (is_too_large program) program)))

pub first_past_limits-found : (program : List ClassListing) (c : ClassListing)
    → Some c ≡ find (is_too_large program) (take 256 program)
    → Some c ≡ first_past_limits program
unfolding first_past_limits
first_past_limits-found program c found = rw (← found)

pub first_past_limits-last : (program : List ClassListing) (c : ClassListing) → 256 < length program
    → None ≡ find (is_too_large program) (take 256 program) → c ≡ get_or program 256 c
    → Some c ≡ first_past_limits program
unfolding first_past_limits
first_past_limits-last program c more none is =
    rw (← none) (sym (slice_get_read program (length program) 256 c refl more is))
