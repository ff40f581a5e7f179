-- Of the classes of an accepted program a text can say all but an interface's superclass and a class named `all`.
use Rattle.std.proofs.Common.{◌≡◌, ℕ, suc, ◌+◌, ◌-◌, Bool, true, false, not, ◌&&◌, ◌||◌, ◌==◌, List, [], ◌∷◌, length}
use Rattle.std.proofs.Common.{flat_map, slice_get, Option, Some, None, refl, sym, ap, ◌∙◌, inl, inr, arith, eq-eqb}
use Rattle.std.specs.Prelude.{nat_le, nat_lt, is_some, codes}
use Rattle.std.specs.List.{find, list_all, list_any}
use Rattle.std.specs.Str.{bytes_eq}
use Rattle.std.proofs.lemmas.Bool.{and_parts, and_from, or_parts, or_from, or_cases, or_left, or_right, cases_Bool}
use Rattle.std.proofs.lemmas.Bool.{cond-true, cond-false, eqb-true, le-leb, false≢true}
use Rattle.std.proofs.lemmas.Slice.Eq.{bytes_eq-Decides}
use Rattle.model.specs.declared.instructions.Instruction.TheVariants as instruction
use Rattle.model.specs.declared.instructions.Invocation.{Invocation}
use Rattle.model.specs.declared.instructions.Invocation.TheVariants as invocation
use Rattle.model.specs.declared.listings.ExceptionRow.{ExceptionRow}
use Rattle.model.specs.declared.listings.Field.{Field}
use Rattle.model.specs.declared.listings.Method.{Method}
use Rattle.model.specs.declared.listings.Placed.{Placed}
use Rattle.model.specs.declared.names.Member.{Member}
use Rattle.model.specs.declared.refusals.LoadRule.{LoadRule}
use Rattle.model.specs.declared.refusals.LoadRule.TheVariants.{ClassTwice, MissingSuperclass, Cycle, WrongSuperclass}
use Rattle.model.specs.declared.refusals.LoadRule.TheVariants.{MemberTwice, UnresolvedReference, BadExceptionRow}
use Rattle.model.specs.declared.refusals.LoadRule.TheVariants.{LimitPassed, RefusedMember, BuiltinName}
use Rattle.model.specs.Accepted.BuiltinNames.{has_builtin_name}
use Rattle.model.specs.Accepted.Cycles.{is_on_cycle}
use Rattle.model.specs.Accepted.LimitsOfClasses.{first_past_limits}
use Rattle.model.specs.Accepted.MembersTwice.{has_member_twice}
use Rattle.model.specs.Accepted.RefusedMembers.{has_refused_member}
use Rattle.model.specs.Accepted.Refusals.{refused_by, refused_main, refusal_of}
use Rattle.model.specs.Accepted.Superclasses.{is_class_twice, has_missing_parent, has_wrong_parent}
use Rattle.model.specs.Accepted.ExceptionRows.{is_instruction, end_of, code_length, is_no_throwable, is_bad_row}
use Rattle.model.specs.Accepted.ExceptionRows.{has_bad_row_in, has_bad_row}
use Rattle.model.specs.Accepted.References.{is_static_found, is_instance_found, is_class_found, is_interface_found}
use Rattle.model.specs.Accepted.References.{names_class, finds_instance, invocation_resolves, resolves, catch_resolves}
use Rattle.model.specs.Accepted.References.{is_unresolved_in, has_unresolved}
use Rattle.model.specs.ClassListings.{ClassListing}
use Rattle.model.specs.CodeListings.{CodeListing}
use Rattle.model.specs.Classes.Builtin.{builtin_classes}
use Rattle.model.specs.Classes.Named.{is_named, listed, builtin, or_else, class_named, parents_in, parents_named}
use Rattle.model.specs.Classes.Resolution.{field_of, resolved_field, is_initializer}
use Rattle.model.specs.Classes.Search.{Declared, upwards, superinterfaces, with_superclasses, first_declared}
use Rattle.model.specs.Classes.Subclasses.{is_within, is_subclass}
use Rattle.model.specs.Signatures.{argument_units}
use Rattle.model.specs.Table.Next.{Listed}
use Rattle.model.specs.Texts.Assembling.{end_from}
use Rattle.model.specs.Texts.Names.{is_class_name}
use Rattle.model.specs.Texts.Spelled.{is_pc, is_bound, catch_is_spelled, row_is_spelled}
use Rattle.disasm.specs.Sayable.{count_is_sayable, operand_is_sayable, code_is_sayable, body_is_sayable}
use Rattle.disasm.specs.Sayable.{method_is_sayable, superclass_is_sayable, is_sayable, catch_is_plain, body_is_plain}
use Rattle.disasm.specs.Sayable.{is_plain, are_named}

-- ---- tests of lists

none_any : {A : Type 0} (p : A → Bool) (xs : List A) → list_any p xs ≡ false → list_all (λ x. not (p x)) xs ≡ true
none_any p [] h = refl
none_any p (x ∷ xs) h =
    let parts = or_parts (p x) (list_any p xs) h in
    and_from (not (p x)) (list_all (λ y. not (p y)) xs) (ap not parts.0) (none_any p xs parts.1)

all_both : {A : Type 0} (p q r : A → Bool) → ((x : A) → p x ≡ true → q x ≡ true → r x ≡ true) → (xs : List A)
    → list_all p xs ≡ true → list_all q xs ≡ true → list_all r xs ≡ true
all_both p q r f [] h k = refl
all_both p q r f (x ∷ xs) h k =
    let one = and_parts (p x) (list_all p xs) h in
    let two = and_parts (q x) (list_all q xs) k in
    and_from (r x) (list_all r xs) (f x one.0 two.0) (all_both p q r f xs one.1 two.1)

reported_false : (b : Bool) → not b ≡ true → b ≡ false
reported_false true h = sym h
reported_false false h = refl

reported_true : (b : Bool) → not b ≡ false → b ≡ true
reported_true true h = refl
reported_true false h = sym h

-- ---- a class that is there has a class's name

some_is : {A : Type 0} (a b : A) → Some a ≡ Some b → a ≡ b
some_is a b e = cc

found_passes : {A : Type 0} (test good : A → Bool) (xs : List A) (x : A) → list_all good xs ≡ true → find test xs
    ≡ Some x → (test x ≡ true) × (good x ≡ true)
found_passes test good [] x all h = absurd cc
found_passes test good (y ∷ xs) x all h =
    let parts = and_parts (good y) (list_all good xs) all in
    elim (cases_Bool (test y)) [
      | inl t ↦
          let same : y ≡ x = some_is y x (sym (cond-true (test y) (Some y) (find test xs) t) ∙ h) in
          (ap test (sym same) ∙ t, ap good (sym same) ∙ parts.0)
      | inr f ↦ found_passes test good xs x parts.1 (sym (cond-false (test y) (Some y) (find test xs) f) ∙ h)
    ]

name_found : (classes : List ClassListing) (name : List ℕ) (o : Option ClassListing) → are_named classes ≡ true
    → find (is_named name) classes ≡ o → is_some o ≡ true → is_class_name name ≡ true
name_found classes name None all e h = absurd (false≢true h)
name_found classes name (Some c) all e h =
    let p = found_passes (is_named name) (λ (k : ClassListing). is_class_name k.name) classes c all e in
    ap is_class_name (sym ((bytes_eq-Decides c.name name).0 p.0)) ∙ p.1

own_names : are_named builtin_classes ≡ true
unfolding builtin_classes
own_names = refl

module _ (program : List ClassListing) (named : are_named program ≡ true) where
  there : (name : List ℕ) → is_some (class_named program name) ≡ true → is_class_name name ≡ true
  there name h = either (listed program name) (builtin name) refl refl h
    where
      either : (a b : Option ClassListing) → listed program name ≡ a → builtin name ≡ b → is_some (or_else a b) ≡ true
          → is_class_name name ≡ true
      either (Some c) b ea eb k = name_found program name (Some c) named ea refl
      either None b ea eb k = name_found builtin_classes name b own_names eb k

  class_there : (name : List ℕ) → is_class_found (class_named program name) ≡ true → is_class_name name ≡ true
  class_there name h = there name (some_class (class_named program name) h)
    where
      some_class : (o : Option ClassListing) → is_class_found o ≡ true → is_some o ≡ true
      some_class None k = absurd (false≢true k)
      some_class (Some c) k = refl

  interface_there : (name : List ℕ) → is_interface_found (class_named program name) ≡ true → is_class_name name ≡ true
  interface_there name h = there name (some_class (class_named program name) h)
    where
      some_class : (o : Option ClassListing) → is_interface_found o ≡ true → is_some o ≡ true
      some_class None k = absurd (false≢true k)
      some_class (Some c) k = refl

  -- ---- fields

  nothing_above : (steps : ℕ) (name : List ℕ) → class_named program name ≡ None → upwards (suc steps) program name ≡ []
  unfolding upwards
  nothing_above steps name e = ap (with_superclasses name (λ superclass. upwards steps program superclass)) e

  enough : length program + 23 ≡ suc (length program + 22)
  enough = omega arith

  no_field : (m : Member) → class_named program m.class ≡ None → resolved_field program m ≡ None
  no_field m e =
      ap (λ (steps : ℕ). first_declared program (field_of m.name m.descriptor)
      (flat_map (λ class. class ∷ superinterfaces program class) (upwards steps program m.class))) enough
      ∙ ap (λ (names : List (List ℕ)). first_declared program (field_of m.name m.descriptor)
      (flat_map (λ class. class ∷ superinterfaces program class) names))
      (nothing_above (length program + 22) m.class e)

  field_there : (m : Member) (o : Option ClassListing) → class_named program m.class ≡ o
      → is_some (resolved_field program m) ≡ true → is_class_name m.class ≡ true
  field_there m None e h = absurd (false≢true (sym (ap (λ f. is_some f) (no_field m e)) ∙ h))
  field_there m (Some c) e h = there m.class (ap (λ (o : Option ClassListing). is_some o) e)

  static_there : (m : Member) → is_static_found (resolved_field program m) ≡ true → is_class_name m.class ≡ true
  static_there m h = field_there m (class_named program m.class) refl (some_field (resolved_field program m) h)
    where
      some_field : (o : Option (Declared Field)) → is_static_found o ≡ true → is_some o ≡ true
      some_field None k = absurd (false≢true k)
      some_field (Some f) k = refl

  instance_there : (m : Member) → is_instance_found (resolved_field program m) ≡ true → is_class_name m.class ≡ true
  instance_there m h = field_there m (class_named program m.class) refl (some_field (resolved_field program m) h)
    where
      some_field : (o : Option (Declared Field)) → is_instance_found o ≡ true → is_some o ≡ true
      some_field None k = absurd (false≢true k)
      some_field (Some f) k = refl

  -- ---- instructions

  call_is : (how : Invocation) (m : Member) → invocation_resolves program how m ≡ true
      → (is_class_name m.class && count_is_sayable how) ≡ true
  call_is invocation.Virtual m h =
      let one = and_parts (names_class program m && not (is_initializer m.name)) (finds_instance program m) h in
      and_from (is_class_name m.class) true
      (class_there m.class (and_parts (names_class program m) (not (is_initializer m.name)) one.0).0) refl
  call_is invocation.Special m h =
      let one = and_parts (names_class program m && not (bytes_eq m.name (codes "<clinit>"))) (finds_instance program m)
      h in
      and_from (is_class_name m.class) true
      (class_there m.class (and_parts (names_class program m) (not (bytes_eq m.name (codes "<clinit>"))) one.0).0)
      refl
  call_is invocation.Static m h =
      let one = and_parts (names_class program m && not (is_initializer m.name)) _ h in
      and_from (is_class_name m.class) true
      (class_there m.class (and_parts (names_class program m) (not (is_initializer m.name)) one.0).0) refl
  call_is (invocation.Interface count) m h =
      let found = is_interface_found (class_named program m.class) in
      let three = and_parts (found && not (is_initializer m.name) && finds_instance program m)
      (count == argument_units m.descriptor + 1) h in
      let two = and_parts (found && not (is_initializer m.name)) (finds_instance program m) three.0 in
      let one = and_parts found (not (is_initializer m.name)) two.0 in
      let number = eqb-true count (argument_units m.descriptor + 1) three.1 in
      and_from (is_class_name m.class) (nat_le 1 count) (interface_there m.class one.0)
      (le-leb 1 count (omega (arith, number)))

  operand_is : (i : Listed) → resolves program i ≡ true → operand_is_sayable i ≡ true
  operand_is instruction.Nop h = refl
  operand_is (instruction.Constant c) h = refl
  operand_is (instruction.Local a) h = refl
  operand_is (instruction.Stack op) h = refl
  operand_is (instruction.Number op) h = refl
  operand_is (instruction.Branch t target) h = refl
  operand_is (instruction.TableSwitch s) h = refl
  operand_is (instruction.LookupSwitch s) h = refl
  operand_is (instruction.Return k) h = refl
  operand_is (instruction.Static a m) h = static_there m h
  operand_is (instruction.Field a m) h = instance_there m h
  operand_is (instruction.Array op) h = refl
  operand_is (instruction.Class op c) h = refl
  operand_is (instruction.Invoke how m) h = call_is how m h
  operand_is instruction.Throw h = refl
  operand_is (instruction.Monitor op) h = refl

  -- ---- rows

  throwable_there : (name : List ℕ) → is_subclass program name (codes "java/lang/Throwable") ≡ true → is_class_name name
      ≡ true
  unfolding is_within
  throwable_there name h = within (length program + 22)
      (sym (ap (λ (steps : ℕ). is_within steps program name (codes "java/lang/Throwable")) enough) ∙ h)
    where
      parents : (test : List ℕ → Bool) (o : Option ClassListing) → list_any test (parents_in o) ≡ true → is_some o
          ≡ true
      parents test None k = absurd (false≢true k)
      parents test (Some c) k = refl

      within : (steps : ℕ) → is_within (suc steps) program name (codes "java/lang/Throwable") ≡ true
          → is_class_name name ≡ true
      within steps k = elim (or_cases (bytes_eq name (codes "java/lang/Throwable"))
          (list_any (λ parent. is_within steps program parent (codes "java/lang/Throwable"))
          (parents_named program name)) k) [
            | inl same ↦ ap is_class_name ((bytes_eq-Decides name (codes "java/lang/Throwable")).0 same) ∙ refl
            | inr below ↦ there name (parents (λ parent. is_within steps program parent (codes "java/lang/Throwable"))
                (class_named program name) below)
          ]

  catch_is : (o : Option (List ℕ)) → is_no_throwable program o ≡ false → catch_is_plain o ≡ true → catch_is_spelled o
      ≡ true
  catch_is None h plain = refl
  catch_is (Some name) h plain =
      and_from (is_class_name name) (not (bytes_eq name (codes "all")))
      (throwable_there name (reported_true (is_subclass program name (codes "java/lang/Throwable")) h)) plain

  last_end : (p : Placed) (ps : List Placed) → end_of (slice_get (p ∷ ps) (length ps)) ≡ end_from p.next ps
  last_end p [] = refl
  last_end p (q ∷ ps) = last_end q ps

  length_is : (c : CodeListing) (ps : List Placed) → c.instructions ≡ ps → code_length c ≡ end_from 0 ps
  length_is c [] e = ap (λ (xs : List Placed). end_of (slice_get xs (length xs - 1))) e
  length_is c (p ∷ ps) e =
      let at : length (p ∷ ps) - 1 ≡ length ps = omega arith in
      ap (λ (xs : List Placed). end_of (slice_get xs (length xs - 1))) e ∙ ap (λ (n : ℕ). end_of (slice_get (p ∷ ps) n))
      at ∙ last_end p ps

  bound_is : (c : CodeListing) (n : ℕ) → (is_instruction c n || n == code_length c) ≡ true → is_bound c.instructions n
      ≡ true
  bound_is c n h = elim (or_cases (is_instruction c n) (n == code_length c) h) [
    | inl here ↦ or_left (is_pc c.instructions n) (end_from 0 c.instructions == n) here
    | inr last ↦
        or_right (is_pc c.instructions n) (end_from 0 c.instructions == n)
        (eq-eqb (end_from 0 c.instructions) n (sym (length_is c c.instructions refl)
        ∙ sym (eqb-true n (code_length c) last)))
  ]

  row_is : (c : CodeListing) (r : ExceptionRow) → not (is_bad_row program c r) ≡ true → catch_is_plain r.class ≡ true
      → row_is_spelled c.instructions r ≡ true
  row_is c r h plain =
      let ps = c.instructions in
      let one = nat_lt r.start r.end && is_instruction c r.start in
      let two = one && is_instruction c r.handler in
      let last = is_instruction c r.end || r.end == code_length c in
      let parts = or_parts (not (two && last)) (is_no_throwable program r.class)
      (reported_false (is_bad_row program c r) h) in
      let bounds = and_parts two last (reported_true (two && last) parts.0) in
      let handled = and_parts one (is_instruction c r.handler) bounds.0 in
      let begun = and_parts (nat_lt r.start r.end) (is_instruction c r.start) handled.0 in
      and_from (is_bound ps r.start && is_bound ps r.end && is_pc ps r.handler) (catch_is_spelled r.class)
      (and_from (is_bound ps r.start && is_bound ps r.end) (is_pc ps r.handler)
      (and_from (is_bound ps r.start) (is_bound ps r.end) (or_left (is_pc ps r.start) (end_from 0 ps == r.start)
      begun.1) (bound_is c r.end bounds.1))
      handled.1)
      (catch_is r.class parts.1 plain)

  -- ---- classes

  resolved : (i : Placed) → not (not (resolves program i.instruction)) ≡ true → operand_is_sayable i.instruction ≡ true
  resolved i h = operand_is i.instruction (reported_true (resolves program i.instruction)
      (reported_false (not (resolves program i.instruction)) h))

  code_is : (c : CodeListing) → is_unresolved_in program (Some c) ≡ false → has_bad_row_in program (Some c) ≡ false
      → list_all (λ r. catch_is_plain r.class) c.rows ≡ true → code_is_sayable c ≡ true
  code_is c names rows plain =
      let ps = c.instructions in
      let found = or_parts (list_any (λ (i : Placed). not (resolves program i.instruction)) ps)
      (list_any (λ (r : ExceptionRow). not (catch_resolves program r.class)) c.rows) names in
      let each = none_any (λ (i : Placed). not (resolves program i.instruction)) ps found.0 in
      and_from (list_all (λ p. operand_is_sayable p.instruction) ps) (list_all (row_is_spelled ps) c.rows)
      (all_both (λ (i : Placed). not (not (resolves program i.instruction)))
      (λ (i : Placed). not (not (resolves program i.instruction)))
      (λ (p : Placed). operand_is_sayable p.instruction) (λ i h k. resolved i h) ps each each)
      (all_both (λ (r : ExceptionRow). not (is_bad_row program c r)) (λ (r : ExceptionRow). catch_is_plain r.class)
      (row_is_spelled ps) (row_is c) c.rows (none_any (is_bad_row program c) c.rows rows) plain)

  body_is : (o : Option CodeListing) → is_unresolved_in program o ≡ false → has_bad_row_in program o ≡ false
      → body_is_plain o ≡ true → body_is_sayable o ≡ true
  body_is None names rows plain = refl
  body_is (Some c) names rows plain = code_is c names rows plain

  methods_are : (ms : List Method) → list_any (λ m. is_unresolved_in program m.code) ms ≡ false
      → list_any (λ m. has_bad_row_in program m.code) ms ≡ false → list_all (λ m. body_is_plain m.code) ms ≡ true
      → list_all method_is_sayable ms ≡ true
  methods_are [] names rows plain = refl
  methods_are (m ∷ ms) names rows plain =
      let a = or_parts (is_unresolved_in program m.code) (list_any (λ k. is_unresolved_in program k.code) ms) names in
      let b = or_parts (has_bad_row_in program m.code) (list_any (λ k. has_bad_row_in program k.code) ms) rows in
      let c = and_parts (body_is_plain m.code) (list_all (λ k. body_is_plain k.code) ms) plain in
      and_from (method_is_sayable m) (list_all method_is_sayable ms) (body_is m.code a.0 b.0 c.0)
      (methods_are ms a.1 b.1 c.1)

  pub class_is_sayable : (l : ClassListing) → has_unresolved program l ≡ false → has_bad_row program l ≡ false
      → is_plain l ≡ true → is_sayable l ≡ true
  unfolding has_unresolved has_bad_row is_plain is_sayable
  class_is_sayable l names rows plain =
      let parts = and_parts (superclass_is_sayable l.flags.0 l.superclass)
      (list_all (λ m. body_is_plain m.code) l.methods) plain in
      and_from (superclass_is_sayable l.flags.0 l.superclass) (list_all method_is_sayable l.methods) parts.0
      (methods_are l.methods names rows parts.1)

  -- ---- programs

  both_none : {A : Type 0} (a b : Option A) → or_else a b ≡ None → (a ≡ None) × (b ≡ None)
  both_none None b h = (refl, h)
  both_none (Some x) b h = absurd cc

  nobody : (rule : LoadRule) (test : ClassListing → Bool) (classes : List ClassListing)
      → refused_by rule (find test classes) ≡ None → list_any test classes ≡ false
  nobody rule test [] h = refl
  nobody rule test (c ∷ classes) h = elim (cases_Bool (test c)) [
    | inl t ↦ absurd (refused c (sym (ap (refused_by rule) (cond-true (test c) (Some c) (find test classes) t)) ∙ h))
    | inr f ↦ or_from (test c) (list_any test classes) f
        (nobody rule test classes (sym (ap (refused_by rule) (cond-false (test c) (Some c) (find test classes) f)) ∙ h))
  ]
    where
      refused : (k : ClassListing) → refused_by rule (Some k) ≡ None → ⊥
      refused k e = cc

  each_is_sayable : (ls : List ClassListing) → list_any (has_unresolved program) ls ≡ false
      → list_any (has_bad_row program) ls ≡ false → list_all is_plain ls ≡ true → list_all is_sayable ls ≡ true
  each_is_sayable [] names rows plain = refl
  each_is_sayable (l ∷ ls) names rows plain =
      let a = or_parts (has_unresolved program l) (list_any (has_unresolved program) ls) names in
      let b = or_parts (has_bad_row program l) (list_any (has_bad_row program) ls) rows in
      let c = and_parts (is_plain l) (list_all is_plain ls) plain in
      and_from (is_sayable l) (list_all is_sayable ls) (class_is_sayable l a.0 b.0 c.0) (each_is_sayable ls a.1 b.1 c.1)

  pub program_is_sayable : refusal_of program ≡ None → list_all is_plain program ≡ true → list_all is_sayable program
      ≡ true
  unfolding refusal_of
  program_is_sayable accepted plain =
      let main = refused_main program in
      let limits = or_else (refused_by LimitPassed (first_past_limits program)) main in
      let rows = or_else (refused_by BadExceptionRow (find (has_bad_row program) program)) limits in
      let names = or_else (refused_by UnresolvedReference (find (has_unresolved program) program)) rows in
      let members = or_else (refused_by RefusedMember (find (has_refused_member program) program)) names in
      let twice = or_else (refused_by MemberTwice (find has_member_twice program)) members in
      let parents = or_else (refused_by WrongSuperclass (find (has_wrong_parent program) program)) twice in
      let cycles = or_else (refused_by Cycle (find (is_on_cycle program) program)) parents in
      let missing = or_else (refused_by MissingSuperclass (find (has_missing_parent program) program)) cycles in
      let again = or_else (refused_by ClassTwice (find (is_class_twice program) program)) missing in
      let a = both_none (refused_by BuiltinName (find has_builtin_name program)) again accepted in
      let b = both_none (refused_by ClassTwice (find (is_class_twice program) program)) missing a.1 in
      let c = both_none (refused_by MissingSuperclass (find (has_missing_parent program) program)) cycles b.1 in
      let d = both_none (refused_by Cycle (find (is_on_cycle program) program)) parents c.1 in
      let e = both_none (refused_by WrongSuperclass (find (has_wrong_parent program) program)) twice d.1 in
      let f = both_none (refused_by MemberTwice (find has_member_twice program)) members e.1 in
      let g = both_none (refused_by RefusedMember (find (has_refused_member program) program)) names f.1 in
      let h = both_none (refused_by UnresolvedReference (find (has_unresolved program) program)) rows g.1 in
      let i = both_none (refused_by BadExceptionRow (find (has_bad_row program) program)) limits h.1 in
      each_is_sayable program (nobody UnresolvedReference (has_unresolved program) program h.0)
      (nobody BadExceptionRow (has_bad_row program) program i.0) plain
