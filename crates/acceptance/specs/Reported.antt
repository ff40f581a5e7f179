use Rattle.std.specs.Prelude.{◌≡◌, List, Option, Some, None, Result, Ok, Err}
use Rattle.std.specs.List.{find}
use Rattle.std.specs.Option.{option_map, option_copied}
use Rattle.model.specs.ClassListings.{ClassListing}
use Rattle.model.specs.declared.refusals.LoadRule.TheVariants.{MissingSuperclass, Cycle}
use Rattle.model.specs.Classes.Named.{or_else}
use Rattle.model.specs.Accepted.Cycles.{is_on_cycle}
use Rattle.model.specs.Accepted.Refusals.{LoadRefusal, refused_by}
use Rattle.model.specs.Accepted.Superclasses.{has_missing_parent}
use Rattle.acceptance.specs.declared.rules.Refusal.{Refusal}
use Rattle.acceptance.specs.declared.rules.Stop.{Stop}
use Rattle.acceptance.specs.declared.rules.Stop.TheVariants.{Refused, Memory}

-- a refusal with the name of the class that it refers to
abbrev pub refusal_value : Refusal → LoadRefusal
refusal_value r = record { rule = r.rule; class = option_map (λ (c : ClassListing). c.name) (option_copied r.class) }

-- the refusal that an answer tells
abbrev pub refusal_in : Result (Unit {0}) Refusal → Option LoadRefusal
refusal_in (Ok u) = None
refusal_in (Err r) = Some (refusal_value r)

-- what stops the rules is this refusal, or want of memory
abbrev pub StopsFor : Option LoadRefusal → Stop → Type 0
StopsFor refusal (Refused r) = refusal ≡ Some (refusal_value r)
StopsFor refusal (Memory e) = Unit {0}

-- the answer tells this refusal, or want of memory
abbrev pub StopsAt : Option LoadRefusal → Result (Unit {0}) Stop → Type 0
StopsAt refusal (Ok u) = refusal ≡ None
StopsAt refusal (Err stop) = StopsFor refusal stop

-- the refusal of a program of which parents are missing, or classes on a cycle
abbrev pub parents_refused : List ClassListing → Option LoadRefusal
parents_refused program =
    or_else (refused_by MissingSuperclass (find (has_missing_parent program) program))
    (refused_by Cycle (find (is_on_cycle program) program))
