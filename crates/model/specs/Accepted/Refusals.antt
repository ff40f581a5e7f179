use Rattle.std.specs.Prelude.{ℕ, List, [], ◌∷◌, Option, Some, None, if◌then◌else◌}
use Rattle.std.specs.List.{find, list_any}
use Rattle.std.specs.Option.{option_map}
use Rattle.model.specs.declared.refusals.LoadRule.{LoadRule}
use Rattle.model.specs.declared.refusals.LoadRule.TheVariants.{ClassTwice, MissingSuperclass, Cycle, WrongSuperclass}
use Rattle.model.specs.declared.refusals.LoadRule.TheVariants.{MemberTwice, UnresolvedReference, BadExceptionRow}
use Rattle.model.specs.declared.refusals.LoadRule.TheVariants.{LimitPassed, NoMain, RefusedMember, BuiltinName}
use Rattle.model.specs.ClassListings.{ClassListing}
use Rattle.model.specs.Programs.{is_main}
use Rattle.model.specs.Classes.Named.{or_else}
use Rattle.model.specs.Accepted.BuiltinNames.{has_builtin_name}
use Rattle.model.specs.Accepted.Superclasses.{is_class_twice, has_missing_parent, has_wrong_parent}
use Rattle.model.specs.Accepted.Cycles.{is_on_cycle}
use Rattle.model.specs.Accepted.MembersTwice.{has_member_twice}
use Rattle.model.specs.Accepted.RefusedMembers.{has_refused_member}
use Rattle.model.specs.Accepted.References.{has_unresolved}
use Rattle.model.specs.Accepted.ExceptionRows.{has_bad_row}
use Rattle.model.specs.Accepted.LimitsOfClasses.{first_past_limits}

-- why a list of listings is no program: the rule that it breaks and the class that is named, if there is one
pub record LoadRefusal : Type 0 where
  pub rule : LoadRule
  pub class : Option (List ℕ)

abbrev pub in_class : LoadRule → ClassListing → LoadRefusal
in_class rule c = record { rule = rule; class = Some c.name }

abbrev pub refused_by : LoadRule → Option ClassListing → Option LoadRefusal
refused_by rule found = option_map (in_class rule) found

-- L9: no class at all, or a first class without a static `main()V`
abbrev pub refused_main : List ClassListing → Option LoadRefusal
refused_main [] = Some (record { rule = NoMain; class = None })
refused_main (c ∷ cs) = if list_any is_main c.methods then None else Some (in_class NoMain c)

-- the first rule in this order that some class breaks, and the first class that does
unfoldable pub refusal_of : List ClassListing → Option LoadRefusal
refusal_of program =
    or_else (refused_by BuiltinName (find has_builtin_name program))
    (or_else (refused_by ClassTwice (find (is_class_twice program) program))
    (or_else (refused_by MissingSuperclass (find (has_missing_parent program) program))
    (or_else (refused_by Cycle (find (is_on_cycle program) program))
    (or_else (refused_by WrongSuperclass (find (has_wrong_parent program) program))
    (or_else (refused_by MemberTwice (find has_member_twice program))
    (or_else (refused_by RefusedMember (find (has_refused_member program) program))
    (or_else (refused_by UnresolvedReference (find (has_unresolved program) program))
    (or_else (refused_by BadExceptionRow (find (has_bad_row program) program))
    (or_else (refused_by LimitPassed (first_past_limits program))
    (refused_main program))))))))))
