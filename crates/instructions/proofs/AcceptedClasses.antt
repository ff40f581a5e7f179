-- What holds of the classes of a program that no rule refuses: each stands once, with each member once, within the
-- limits.
use Rattle.std.proofs.Common.{◌≡◌, ℕ, ◌+◌, ◌≤◌, List, [], ◌∷◌, length, take, Bool, true, false, ◌||◌, nat_lt, Option}
use Rattle.std.proofs.Common.{Some, None, refl, sym, ap, arith, ◌∙◌}
use Rattle.std.specs.Prelude.{slice_get, zero, suc}
use Rattle.std.specs.List.{find, list_any}
use Rattle.std.proofs.lemmas.Bool.{ltb-false}
use Rattle.std.proofs.lemmas.List.{take_all}
use Rattle.model.specs.declared.listings.Method.{Method}
use Rattle.model.specs.declared.refusals.LoadRule.{LoadRule}
use Rattle.model.specs.declared.refusals.LoadRule.TheVariants.{BadExceptionRow, BuiltinName, ClassTwice, Cycle}
use Rattle.model.specs.declared.refusals.LoadRule.TheVariants.{LimitPassed, MemberTwice, MissingSuperclass}
use Rattle.model.specs.declared.refusals.LoadRule.TheVariants.{RefusedMember, UnresolvedReference, WrongSuperclass}
use Rattle.model.specs.Accepted.BuiltinNames.{has_builtin_name}
use Rattle.model.specs.Accepted.Cycles.{is_on_cycle}
use Rattle.model.specs.Accepted.ExceptionRows.{has_bad_row}
use Rattle.model.specs.Accepted.LimitsOfClasses.{first_past_limits, has_too_many_fields, is_too_large, passes_limits}
use Rattle.model.specs.Accepted.LimitsOfClasses.{units_to_begin}
use Rattle.model.specs.Accepted.MembersTwice.{has_member_twice}
use Rattle.model.specs.Accepted.References.{has_unresolved}
use Rattle.model.specs.Accepted.RefusedMembers.{has_refused_member}
use Rattle.model.specs.Accepted.Refusals.{LoadRefusal, refusal_of, refused_by, refused_main}
use Rattle.model.specs.Accepted.Superclasses.{has_missing_parent, has_wrong_parent, is_class_twice}
use Rattle.model.specs.ClassListings.{ClassListing}
use Rattle.model.specs.Classes.Named.{or_else}
use Rattle.model.specs.CodeListings.{CodeListing}
use Rattle.instructions.proofs.CodeResolves.{none-any-at, none-found-at}

neither : {A : Type 0} (a b : Option A) → or_else a b ≡ None → (a ≡ None) × (b ≡ None)
neither None b e = (refl, e)
neither (Some x) b e = cc

none_found : (rule : LoadRule) (o : Option ClassListing) → refused_by rule o ≡ None → o ≡ None
none_found rule None e = refl
none_found rule (Some c) e = cc

either-false : (a b : Bool) → (a || b) ≡ false → (a ≡ false) × (b ≡ false)
either-false true b e = cc
either-false false b e = (refl, e)

pub record Unrefused (program : List ClassListing) : Type 0 where
  pub classes : find (is_class_twice program) program ≡ None
  pub members : find has_member_twice program ≡ None
  pub limits : first_past_limits program ≡ None

module _ (program : List ClassListing) where
  -- the rules from each one on
  abbrev last : Option LoadRefusal
  last = or_else (refused_by LimitPassed (first_past_limits program)) (refused_main program)

  abbrev from_rows : Option LoadRefusal
  from_rows = or_else (refused_by BadExceptionRow (find (has_bad_row program) program)) last

  abbrev from_references : Option LoadRefusal
  from_references = or_else (refused_by UnresolvedReference (find (has_unresolved program) program)) from_rows

  abbrev from_refused : Option LoadRefusal
  from_refused = or_else (refused_by RefusedMember (find (has_refused_member program) program)) from_references

  abbrev from_members : Option LoadRefusal
  from_members = or_else (refused_by MemberTwice (find has_member_twice program)) from_refused

  abbrev from_wrong : Option LoadRefusal
  from_wrong = or_else (refused_by WrongSuperclass (find (has_wrong_parent program) program)) from_members

  abbrev from_cycles : Option LoadRefusal
  from_cycles = or_else (refused_by Cycle (find (is_on_cycle program) program)) from_wrong

  abbrev from_missing : Option LoadRefusal
  from_missing = or_else (refused_by MissingSuperclass (find (has_missing_parent program) program)) from_cycles

  abbrev from_classes : Option LoadRefusal
  from_classes = or_else (refused_by ClassTwice (find (is_class_twice program) program)) from_missing

  pub unrefused : refusal_of program ≡ None → Unrefused program
  unfolding refusal_of
  unrefused e =
      let own = neither (refused_by BuiltinName (find has_builtin_name program)) from_classes e in
      let classes = neither (refused_by ClassTwice (find (is_class_twice program) program)) from_missing own.1 in
      let missing = neither (refused_by MissingSuperclass (find (has_missing_parent program) program)) from_cycles
      classes.1 in
      let cycles = neither (refused_by Cycle (find (is_on_cycle program) program)) from_wrong missing.1 in
      let wrong = neither (refused_by WrongSuperclass (find (has_wrong_parent program) program)) from_members cycles.1
      in
      let members = neither (refused_by MemberTwice (find has_member_twice program)) from_refused wrong.1 in
      let refused = neither (refused_by RefusedMember (find (has_refused_member program) program)) from_references
      members.1 in
      let references = neither (refused_by UnresolvedReference (find (has_unresolved program) program)) from_rows
      refused.1 in
      let rows = neither (refused_by BadExceptionRow (find (has_bad_row program) program)) last references.1 in
      let limits = neither (refused_by LimitPassed (first_past_limits program)) (refused_main program) rows.1 in
      record {
        classes = none_found ClassTwice (find (is_class_twice program) program) classes.0;
        members = none_found MemberTwice (find has_member_twice program) members.0;
        limits = none_found LimitPassed (first_past_limits program) limits.0;
      }

  -- ---- limits

  within-length : {A : Type 0} (xs : List A) (n : ℕ) → slice_get xs n ≡ None → length xs ≤ n
  within-length [] n e = omega arith
  within-length (x ∷ xs) zero e = cc
  within-length (x ∷ xs) (suc n) e = omega (arith, within-length xs n e)

  not-large : (n : ℕ) (c : ClassListing) → first_past_limits program ≡ None → slice_get program n ≡ Some c
      → is_too_large program c ≡ false
  unfolding first_past_limits
  not-large n c none at =
      let parts = neither (find (is_too_large program) (take 256 program)) (slice_get program 256) none in
      let whole : take 256 program ≡ program = take_all 256 program (within-length program 256 parts.1) in
      none-found-at (is_too_large program) program n c
      (sym (ap (find (is_too_large program)) whole) ∙ parts.0) at

  methods-fit : (c : ClassListing) → is_too_large program c ≡ false
      → list_any (λ (m : Method). passes_limits m m.code) c.methods ≡ false
  unfolding is_too_large
  methods-fit c e =
      (either-false (has_too_many_fields program c) (list_any (λ (m : Method). passes_limits m m.code) c.methods) e).1

  -- the locals of a method hold its arguments, and a frame of it takes 4,096 units at most
  pub record Fits (m : Method) (code : CodeListing) : Type 0 where
    pub arguments : units_to_begin m ≤ code.max_locals
    pub frame : code.max_locals + code.max_stack ≤ 4096

  pub code-fits : Unrefused program → (n k : ℕ) (c : ClassListing) (m : Method) (code : CodeListing)
      → slice_get program n ≡ Some c → slice_get c.methods k ≡ Some m → m.code ≡ Some code → Fits m code
  code-fits free n k c m code at here is =
      let fits : passes_limits m (Some code) ≡ false =
      ap (passes_limits m) (sym is)
      ∙ none-any-at (λ (m : Method). passes_limits m m.code) c.methods k m
      (methods-fit c (not-large n c free.limits at)) here in
      let both = either-false (nat_lt code.max_locals (units_to_begin m))
      (nat_lt 4096 (code.max_locals + code.max_stack)) fits in
      record {
        arguments = ltb-false code.max_locals (units_to_begin m) both.0;
        frame = ltb-false 4096 (code.max_locals + code.max_stack) both.1;
      }
