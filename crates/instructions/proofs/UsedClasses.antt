-- The class that an operation uses is the one that its instruction uses.
use Rattle.std.proofs.Common.{◌≡◌, ℕ, suc, ℤ, List, [], ◌∷◌, Bool, true, false, ◌&&◌, cond, is_some, position}
use Rattle.std.proofs.Common.{slice_get, Option, Some, None, refl, sym, ap, subst, ◌∙◌}
use Rattle.std.specs.Prelude.{codes, if◌then◌else◌}
use Rattle.std.specs.List.{find}
use Rattle.std.specs.Option.{option_and_then, option_map, option_zip}
use Rattle.std.specs.Str.{bytes_eq}
use Rattle.std.proofs.lemmas.Option.{slice_get-map}
use Rattle.std.proofs.lemmas.Slice.Eq.{bytes_eq-Decides}
use Rattle.model.specs.declared.builtins.Builtin.{Builtin}
use Rattle.model.specs.declared.builtins.Builtin.TheVariants.{PrintInt, PrintLong, PutByte, Initialize, RunThread}
use Rattle.model.specs.declared.builtins.Builtin.TheVariants.{StartThread, JoinThread}
use Rattle.model.specs.declared.instructions.Access.{Access}
use Rattle.model.specs.declared.instructions.Access.TheVariants.{Get, Put}
use Rattle.model.specs.declared.instructions.ArrayOperation.{ArrayOperation}
use Rattle.model.specs.declared.instructions.ArrayOperation.TheVariants.{New as NewArrayOf, NewOf, Length}
use Rattle.model.specs.declared.instructions.ArrayOperation.TheVariants.{Load as LoadElement, Store as StoreElement}
use Rattle.model.specs.declared.instructions.ClassOperation.TheVariants.{New as NewObject, CheckCast, InstanceOf}
use Rattle.model.specs.declared.instructions.Comparison.{Comparison}
use Rattle.model.specs.declared.instructions.Comparison.TheVariants.{Equal, NotEqual, Less, GreaterOrEqual, Greater}
use Rattle.model.specs.declared.instructions.Comparison.TheVariants.{LessOrEqual}
use Rattle.model.specs.declared.instructions.Constant.{Constant as ConstantOf}
use Rattle.model.specs.declared.instructions.Constant.TheVariants.{Null, SmallInt, SmallLong, Byte, Short, Int, Long}
use Rattle.model.specs.declared.instructions.Conversion.{Conversion}
use Rattle.model.specs.declared.instructions.Conversion.TheVariants.{IntToLong, LongToInt, IntToByte, IntToChar}
use Rattle.model.specs.declared.instructions.Conversion.TheVariants.{IntToShort}
use Rattle.model.specs.declared.instructions.ElementKind.TheVariants as element
use Rattle.model.specs.declared.instructions.Identity.TheVariants.{Same, Different}
use Rattle.model.specs.declared.instructions.Instruction.TheVariants.{Nop, Constant, Local, Stack, Number, Branch}
use Rattle.model.specs.declared.instructions.Instruction.TheVariants.{TableSwitch, LookupSwitch, Return}
use Rattle.model.specs.declared.instructions.Instruction.TheVariants.{Static as StaticField, Field as FieldOf}
use Rattle.model.specs.declared.instructions.Instruction.TheVariants.{Array as ArrayOf, Class as ClassOf, Invoke, Throw}
use Rattle.model.specs.declared.instructions.Instruction.TheVariants.{Monitor}
use Rattle.model.specs.declared.instructions.Invocation.TheVariants.{Virtual, Special, Static, Interface}
use Rattle.model.specs.declared.instructions.LocalAccess.{LocalAccess}
use Rattle.model.specs.declared.instructions.LocalAccess.TheVariants.{Load, Store, Increment}
use Rattle.model.specs.declared.instructions.MonitorOperation.TheVariants.{Enter, Exit}
use Rattle.model.specs.declared.instructions.NumberKind.TheVariants as number
use Rattle.model.specs.declared.instructions.NumberOperation.{NumberOperation}
use Rattle.model.specs.declared.instructions.NumberOperation.TheVariants.{Binary, Negate, Convert, CompareLongs}
use Rattle.model.specs.declared.instructions.Operator.{Operator}
use Rattle.model.specs.declared.instructions.Operator.TheVariants.{Add, Sub, Mul, Div, Rem, Shl, Shr, Ushr, And, Or}
use Rattle.model.specs.declared.instructions.Operator.TheVariants.{Xor}
use Rattle.model.specs.declared.instructions.StackOperation.{StackOperation}
use Rattle.model.specs.declared.instructions.StackOperation.TheVariants.{Pop, Pop2, Dup, DupX1, DupX2, Dup2, Dup2X1}
use Rattle.model.specs.declared.instructions.StackOperation.TheVariants.{Dup2X2, Swap}
use Rattle.model.specs.declared.instructions.Test.{Test}
use Rattle.model.specs.declared.instructions.Test.TheVariants.{Always, Zero, Ints, Refs, Null as NullTest}
use Rattle.model.specs.declared.listings.Field.{Field}
use Rattle.model.specs.declared.listings.Method.{Method}
use Rattle.model.specs.declared.names.Member.{Member}
use Rattle.model.specs.declared.values.Kind.{Kind}
use Rattle.model.specs.declared.values.Kind.TheVariants as kind
use Rattle.model.specs.Accepted.BuiltinNames.{has_builtin_name}
use Rattle.model.specs.Accepted.References.{is_concrete_found, is_static_found, resolves}
use Rattle.model.specs.ClassListings.{ClassListing}
use Rattle.model.specs.Classes.Builtin.{builtin_classes}
use Rattle.model.specs.Classes.MethodPlaces.{is_method, member_of}
use Rattle.model.specs.Classes.Named.{builtin, class_named, is_named, or_else}
use Rattle.model.specs.Classes.Resolution.{is_initializer, method_of, resolved_field, resolved_method}
use Rattle.model.specs.Classes.Search.{Declared, declared_in, first_declared, method_order}
use Rattle.model.specs.Classes.Special.{special_method}
use Rattle.model.specs.Programs.{builtin_of, is_member, is_own_initializer}
use Rattle.model.specs.Table.Initialisation.{declarer}
use Rattle.model.specs.Table.Next.{Listed, class_used}
use Rattle.model.specs.Words.{is_field}
use Rattle.model.specs.Worlds.{opening_slots}
use Rattle.resolve.specs.Numbers.{class_names, class_number}
use Rattle.resolve.proofs.ListLemmas.{found-any}
use Rattle.resolve.proofs.NumberLemmas.{position-cons}
use Rattle.linking.specs.declared.operations.Operation.{Operation}
use Rattle.linking.specs.declared.operations.Operation.TheVariants.{Aside, Lconst}
use Rattle.linking.specs.declared.operations.TypeNumber.{TypeNumber}
use Rattle.linking.specs.ClassNumbers.{class_place}
use Rattle.linking.specs.Operations.{operation_of}
use Rattle.linking.specs.PlainOperations.{branch_operation, constant_operation, conversion_operation, int_operation}
use Rattle.linking.specs.PlainOperations.{ints_branch, is_32_bits, local_operation, long_operation, number_operation}
use Rattle.linking.specs.PlainOperations.{return_operation, stack_operation, zero_branch}
use Rattle.linking.specs.ResolvedOperations.{accesses_slot, accesses_word, array_operation, calls_none, calls_own}
use Rattle.linking.specs.ResolvedOperations.{calls_selected, calls_special, calls_static, casts, makes_array}
use Rattle.linking.specs.ResolvedOperations.{makes_object, method_named, method_number, method_place, selector_named}
use Rattle.linking.specs.ResolvedOperations.{slot_number, special_call, static_call, tests_type, type_of, word_named}
use Rattle.linking.specs.StaticSlots.{slot_of, static_slots}
use Rattle.instructions.specs.InitialisingByNumbers.{class_used_by, slot_class}
use Rattle.instructions.proofs.ChainLemmas.{AreSame}
use Rattle.instructions.proofs.ByNumberLemmas.{HasNumber, number-of}
use Rattle.instructions.proofs.ListPlaces.{HasFirst, first_at, first_of}
use Rattle.instructions.proofs.ResolvedFields.{class-same, resolved-is, slot-there}

-- ---- operations that use no class

module _ (program : List ClassListing) where
  abbrev UsesNone : Operation → Type 0
  UsesNone operation = class_used_by program operation ≡ None

  if-none : (b : Bool) (z : ℤ) → UsesNone (if b then Lconst z else Aside)
  if-none true z = refl
  if-none false z = refl

  constant-none : (c : ConstantOf ℤ ℤ) → UsesNone (constant_operation c)
  constant-none Null = refl
  constant-none (SmallInt n) = refl
  constant-none (SmallLong n) = refl
  constant-none (Byte z) = refl
  constant-none (Short z) = refl
  constant-none (Int width z) = refl
  constant-none (Long z) = if-none (is_32_bits z) z

  local-none : (a : LocalAccess) → UsesNone (local_operation a)
  local-none (Load kind.Int place) = refl
  local-none (Load kind.Long place) = refl
  local-none (Load kind.Ref place) = refl
  local-none (Store kind.Int place) = refl
  local-none (Store kind.Long place) = refl
  local-none (Store kind.Ref place) = refl
  local-none (Increment i) = refl

  stack-none : (o : StackOperation) → UsesNone (stack_operation o)
  stack-none Pop = refl
  stack-none Pop2 = refl
  stack-none Dup = refl
  stack-none DupX1 = refl
  stack-none DupX2 = refl
  stack-none Dup2 = refl
  stack-none Dup2X1 = refl
  stack-none Dup2X2 = refl
  stack-none Swap = refl

  int-none : (o : Operator) → UsesNone (int_operation o)
  int-none Add = refl
  int-none Sub = refl
  int-none Mul = refl
  int-none Div = refl
  int-none Rem = refl
  int-none Shl = refl
  int-none Shr = refl
  int-none Ushr = refl
  int-none And = refl
  int-none Or = refl
  int-none Xor = refl

  long-none : (o : Operator) → UsesNone (long_operation o)
  long-none Add = refl
  long-none Sub = refl
  long-none Mul = refl
  long-none Div = refl
  long-none Rem = refl
  long-none Shl = refl
  long-none Shr = refl
  long-none Ushr = refl
  long-none And = refl
  long-none Or = refl
  long-none Xor = refl

  conversion-none : (c : Conversion) → UsesNone (conversion_operation c)
  conversion-none IntToLong = refl
  conversion-none LongToInt = refl
  conversion-none IntToByte = refl
  conversion-none IntToChar = refl
  conversion-none IntToShort = refl

  number-none : (o : NumberOperation) → UsesNone (number_operation o)
  number-none (Binary number.Int o) = int-none o
  number-none (Binary number.Long o) = long-none o
  number-none (Negate number.Int) = refl
  number-none (Negate number.Long) = refl
  number-none (Convert c) = conversion-none c
  number-none CompareLongs = refl

  zero-none : (c : Comparison) (target : ℕ) → UsesNone (zero_branch c target)
  zero-none Equal target = refl
  zero-none NotEqual target = refl
  zero-none Less target = refl
  zero-none GreaterOrEqual target = refl
  zero-none Greater target = refl
  zero-none LessOrEqual target = refl

  ints-none : (c : Comparison) (target : ℕ) → UsesNone (ints_branch c target)
  ints-none Equal target = refl
  ints-none NotEqual target = refl
  ints-none Less target = refl
  ints-none GreaterOrEqual target = refl
  ints-none Greater target = refl
  ints-none LessOrEqual target = refl

  branch-none : (t : Test) (target : ℕ) → UsesNone (branch_operation t target)
  branch-none (Always width) target = refl
  branch-none (Zero c) target = zero-none c target
  branch-none (Ints c) target = ints-none c target
  branch-none (Refs Same) target = refl
  branch-none (Refs Different) target = refl
  branch-none (NullTest Same) target = refl
  branch-none (NullTest Different) target = refl

  return-none : (k : Option Kind) → UsesNone (return_operation k)
  return-none None = refl
  return-none (Some kind.Int) = refl
  return-none (Some kind.Long) = refl
  return-none (Some kind.Ref) = refl

  field-none : (access : Access) (word : Option (ℕ × (ℕ × ℕ))) → UsesNone (accesses_word access word)
  field-none access None = refl
  field-none Get (Some n) = refl
  field-none Put (Some n) = refl

  made-none : (type : Option TypeNumber) → UsesNone (makes_array type)
  made-none None = refl
  made-none (Some type) = refl

  array-none : (o : ArrayOperation (List ℕ)) → UsesNone (array_operation program o)
  array-none (NewArrayOf primitive) = refl
  array-none (NewOf name) = made-none (type_of program name)
  array-none Length = refl
  array-none (LoadElement element.Int) = refl
  array-none (LoadElement element.Long) = refl
  array-none (LoadElement element.Ref) = refl
  array-none (LoadElement element.Byte) = refl
  array-none (LoadElement element.Char) = refl
  array-none (LoadElement element.Short) = refl
  array-none (StoreElement element.Int) = refl
  array-none (StoreElement element.Long) = refl
  array-none (StoreElement element.Ref) = refl
  array-none (StoreElement element.Byte) = refl
  array-none (StoreElement element.Char) = refl
  array-none (StoreElement element.Short) = refl

  casts-none : (type : Option TypeNumber) → UsesNone (casts type)
  casts-none None = refl
  casts-none (Some type) = refl

  tests-none : (type : Option TypeNumber) → UsesNone (tests_type type)
  tests-none None = refl
  tests-none (Some type) = refl

  virtual-none : (selector : Option (ℕ × ℕ)) → UsesNone (calls_selected selector)
  virtual-none None = refl
  virtual-none (Some n) = refl

  special-none : (m : Member) (selected resolved : Option (Declared Method))
      → UsesNone (special_call program m selected resolved)
  special-none m (Some d) resolved = by (method_named program m d) where
    by : (o : Option (ℕ × (ℕ × ℕ))) → UsesNone (calls_special o)
    by None = refl
    by (Some n) = refl
  special-none m None (Some d) = by (method_named program m d) where
    by : (o : Option (ℕ × (ℕ × ℕ))) → UsesNone (calls_none o)
    by None = refl
    by (Some n) = refl
  special-none m None None = refl

-- ---- a method that is found

one : {A : Type 0} (x y : A) → Some x ≡ Some y → x ≡ y
one x y e = cc

-- the class that declares it has it under the name and descriptor referred to
pub record IsFound (program : List ClassListing) (m : Member) (d : Declared Method) : Type 0 where
  pub class : ClassListing
  pub named : class_named program d.class ≡ Some class
  pub found : method_of m.name m.descriptor class ≡ Some d.member

module _ (program : List ClassListing) (m : Member) where
  in_class : (name : List ℕ) (c : Option ClassListing) (d : Declared Method) → class_named program name ≡ c
      → declared_in (method_of m.name m.descriptor) name c ≡ Some d → IsFound program m d
  in_class name None d is e = cc
  in_class name (Some c) d is e = by (method_of m.name m.descriptor c) refl e
    where
      by : (o : Option Method) → method_of m.name m.descriptor c ≡ o
          → option_map (λ o. record { class = name; member = o }) o ≡ Some d
          → IsFound program m d
      by None h k = cc
      by (Some o) h k =
          let same : record { class = name; member = o } ≡ d = one _ d k in
          record {
            class = c;
            named = ap (λ (d : Declared Method). class_named program d.class) (sym same) ∙ is;
            found = h ∙ ap (λ (d : Declared Method). Some d.member) same;
          }

  in_order : (names : List (List ℕ)) (d : Declared Method)
      → first_declared program (method_of m.name m.descriptor) names ≡ Some d → IsFound program m d
  in_order [] d e = cc
  in_order (name ∷ names) d e =
      by (declared_in (method_of m.name m.descriptor) name (class_named program name)) refl e (λ k. in_order names d k)
    where
      by : (o : Option (Declared Method))
          → declared_in (method_of m.name m.descriptor) name (class_named program name) ≡ o
          → or_else o (first_declared program (method_of m.name m.descriptor) names) ≡ Some d
          → (first_declared program (method_of m.name m.descriptor) names ≡ Some d → IsFound program m d)
          → IsFound program m d
      by None h k rest = rest k
      by (Some found) h k rest = in_class name (class_named program name) d refl (h ∙ k)

  pub method-found : (d : Declared Method) → resolved_method program m ≡ Some d → IsFound program m d
  method-found d e = in_order (if is_initializer m.name then m.class ∷ [] else method_order program m.class) d e

and-true : (a b : Bool) → a ≡ true → b ≡ true → (a && b) ≡ true
and-true true b p q = q
and-true false b p q = p

bytes-same : (xs : List ℕ) → bytes_eq xs xs ≡ true
bytes-same xs = (bytes_eq-Decides xs xs).1 refl

module _ (program : List ClassListing) (m : Member) (d : Declared Method) (e : resolved_method program m ≡ Some d) where
  abbrev pub found : IsFound program m d
  found = method-found program m d e

  pub declarer-number : HasNumber program d.class
  declarer-number = number-of program d.class found.class found.named

  pub method-there : HasFirst (is_method d.member.name d.member.descriptor) found.class.methods
  method-there =
      first_of (is_method d.member.name d.member.descriptor) found.class.methods
      (found-any (is_method m.name m.descriptor)
      (is_method d.member.name d.member.descriptor) found.class.methods d.member found.found
      (and-true (bytes_eq d.member.name d.member.name) (bytes_eq d.member.descriptor d.member.descriptor)
      (bytes-same d.member.name) (bytes-same d.member.descriptor)))

  -- its class and its place there have numbers
  pub method-numbered : method_number program d ≡ Some (declarer-number.number, method-there.place)
  method-numbered =
      ap (λ class. option_zip class (method_place program d)) declarer-number.is
      ∙ ap (λ place. option_zip (Some declarer-number.number) place)
      (ap (option_and_then (λ (c : ClassListing). position (is_method d.member.name d.member.descriptor) c.methods))
      found.named ∙ method-there.is)

-- ---- the machine's own methods

pub choose : {T : Type 0} (b : Bool) (x : Builtin) (rest : Option Builtin) (y : Builtin) → cond b (Some x) rest ≡ Some y
    → (b ≡ true → T) → (rest ≡ Some y → T) → T
choose true x rest y e here later = here refl
choose false x rest y e here later = later e

first-true : (a b : Bool) → (a && b) ≡ true → a ≡ true
first-true true b e = refl
first-true false b e = cc

module _ (m : Member) where
  abbrev IsOwn : Type 0
  IsOwn = is_some (builtin m.class) ≡ true

  sys-own : bytes_eq m.class (codes "vm/Sys") ≡ true → IsOwn
  unfolding builtin_classes
  sys-own e = let is = (bytes_eq-Decides m.class (codes "vm/Sys")).0 e in rw is

  thread-own : bytes_eq m.class (codes "java/lang/Thread") ≡ true → IsOwn
  unfolding builtin_classes
  thread-own e = let is = (bytes_eq-Decides m.class (codes "java/lang/Thread")).0 e in rw is

  sys-member : (name descriptor : List ℕ) → is_member m (codes "vm/Sys") name descriptor ≡ true → IsOwn
  sys-member name descriptor e = sys-own (first-true _ _ (first-true _ _ e))

  thread-member : (name descriptor : List ℕ) → is_member m (codes "java/lang/Thread") name descriptor ≡ true → IsOwn
  thread-member name descriptor e = thread-own (first-true _ _ (first-true _ _ e))

  initializer-own : is_own_initializer m ≡ true → IsOwn
  initializer-own e = first-true _ _ (first-true _ _ e)

  -- they are those of the machine's own classes
  own-member : (b : Builtin) → builtin_of m ≡ Some b → IsOwn
  own-member b e =
      choose _ _ _ b e (sys-member (codes "print") (codes "(I)V"))
      (λ e. choose _ _ _ b e (sys-member (codes "printl") (codes "(J)V"))
      (λ e. choose _ _ _ b e (sys-member (codes "putc") (codes "(I)V"))
      (λ e. choose _ _ _ b e (thread-member (codes "run") (codes "()V"))
      (λ e. choose _ _ _ b e (thread-member (codes "start") (codes "()V"))
      (λ e. choose _ _ _ b e (thread-member (codes "join") (codes "()V"))
      (λ e. choose _ _ _ b e initializer-own (λ e. absurd (none e))))))))
    where
      none : {x : Builtin} → None ≡ Some x → ⊥
      none e = cc

-- and no class of an accepted program has the name of one
not-own : (c : ClassListing) (name : List ℕ) → has_builtin_name c ≡ false → is_some (builtin name) ≡ true
    → is_named name c ≡ false
unfolding has_builtin_name
not-own c name none own = by (is_named name c) refl where
  by : (b : Bool) → is_named name c ≡ b → b ≡ false
  by true h =
      let is = (bytes_eq-Decides c.name name).0 h in
      let hides : is_some (builtin c.name) ≡ true = ap (λ n. is_some (builtin n)) is ∙ own in
      sym hides ∙ none
  by false h = refl

own-unlisted : (program : List ClassListing) (name : List ℕ) → find has_builtin_name program ≡ None
    → is_some (builtin name) ≡ true → position (is_named name) program ≡ None
own-unlisted [] name none own = refl
own-unlisted (c ∷ cs) name none own = by (has_builtin_name c) refl none (λ e. own-unlisted cs name e own) where
  by : (b : Bool) → has_builtin_name c ≡ b → cond b (Some c) (find has_builtin_name cs) ≡ None
      → (find has_builtin_name cs ≡ None → position (is_named name) cs ≡ None)
      → position (is_named name) (c ∷ cs) ≡ None
  by true e none rest = cc
  by false e none rest =
      position-cons (is_named name) c cs
      ∙ ap (λ b. cond b (Some 0) (option_map suc (position (is_named name) cs))) (not-own c name e own)
      ∙ ap (option_map suc) (rest none)

-- ---- each instruction

module _ (program : List ClassListing) (hides : find has_builtin_name program ≡ None) where
  no-class : (class : Option ℕ) → class ≡ None → AreSame program None class
  no-class class e = subst (AreSame program None) (sym e) tt

  slot-same : (access : Access) (m : Member) → is_static_found (resolved_field program m) ≡ true
      → AreSame program (declarer (resolved_field program m))
      (class_used_by program (accesses_slot access (option_and_then (slot_number program) (resolved_field program m))))
  slot-same access m there = by (resolved_field program m) refl there
    where
      by : (o : Option (Declared Field)) → resolved_field program m ≡ o → is_static_found o ≡ true
          → AreSame program (declarer o)
          (class_used_by program (accesses_slot access (option_and_then (slot_number program) o)))
      by None e static = cc
      by (Some d) e static =
          let resolved = resolved-is program m d e in
          let slot = slot-there program m d resolved static in
          let first = first_at (is_field d) (opening_slots program) slot.place slot.is in
          let class = number-of program d.class resolved.class resolved.named in
          let listed : slot_class (slice_get (static_slots program) slot.place) ≡ Some class.number =
          ap slot_class (slice_get-map (slot_of program) (opening_slots program) slot.place
          ∙ ap (option_map (slot_of program)) first.there)
          ∙ ap (λ name. Some (class_place program name)) (class-same d first.item first.passes)
          ∙ ap (λ n. Some n) (first_at (bytes_eq d.class) (class_names program) class.number class.is).place_is in
          subst (λ slot. AreSame program (Some d.class) (class_used_by program (accesses_slot access slot)))
          (sym slot.is)
          (subst (AreSame program (Some d.class)) (sym (by_access access slot.place ∙ listed)) class.is)
        where
          by_access : (access : Access) (n : ℕ)
              → class_used_by program (accesses_slot access (Some n)) ≡ slot_class (slice_get (static_slots program) n)
          by_access Get n = refl
          by_access Put n = refl

  new-same : (name : List ℕ) → is_concrete_found (class_named program name) ≡ true
      → AreSame program (Some name) (class_used_by program (makes_object (class_number program name)))
  new-same name there = by (class_named program name) refl there
    where
      by : (o : Option ClassListing) → class_named program name ≡ o → is_concrete_found o ≡ true
          → AreSame program (Some name) (class_used_by program (makes_object (class_number program name)))
      by None e k = cc
      by (Some c) e k =
          let class = number-of program name c e in
          subst (λ n. AreSame program (Some name) (class_used_by program (makes_object n))) (sym class.is) class.is

  call-same : (m : Member) → AreSame program (declarer (resolved_method program m))
      (class_used_by program (static_call program (resolved_method program m)))
  call-same m = by (resolved_method program m) refl
    where
      by : (o : Option (Declared Method)) → resolved_method program m ≡ o
          → AreSame program (declarer o) (class_used_by program (static_call program o))
      by None e = tt
      by (Some d) e = by_own (builtin_of (member_of d)) refl
        where
          class : HasNumber program d.class
          class = declarer-number program m d e

          called : AreSame program (Some d.class) (class_used_by program (calls_static (method_number program d)))
          called =
              subst (λ o. AreSame program (Some d.class) (class_used_by program (calls_static o)))
              (sym (method-numbered program m d e)) class.is

          unlisted : (b : Builtin) → builtin_of (member_of d) ≡ Some b → position (is_named d.class) program ≡ None
          unlisted b is = own-unlisted program d.class hides (own-member (member_of d) b is)

          by_own : (b : Option Builtin) → builtin_of (member_of d) ≡ b
              → AreSame program (Some d.class) (class_used_by program (calls_own (method_number program d) b))
          by_own None is = called
          by_own (Some PrintInt) is = unlisted PrintInt is
          by_own (Some PrintLong) is = unlisted PrintLong is
          by_own (Some PutByte) is = unlisted PutByte is
          by_own (Some Initialize) is = called
          by_own (Some RunThread) is = called
          by_own (Some StartThread) is = called
          by_own (Some JoinThread) is = called

  pub used-same : (superclass : List ℕ) (i : Listed) → resolves program i ≡ true
      → AreSame program (class_used program i) (class_used_by program (operation_of program superclass i))
  used-same superclass Nop there = tt
  used-same superclass (Constant c) there = no-class (class_used_by program (constant_operation c))
      (constant-none program c)
  used-same superclass (Local a) there = no-class (class_used_by program (local_operation a)) (local-none program a)
  used-same superclass (Stack o) there = no-class (class_used_by program (stack_operation o)) (stack-none program o)
  used-same superclass (Number o) there = no-class (class_used_by program (number_operation o)) (number-none program o)
  used-same superclass (Branch t target) there =
      no-class (class_used_by program (branch_operation t target)) (branch-none program t target)
  used-same superclass (TableSwitch table) there = tt
  used-same superclass (LookupSwitch lookup) there = tt
  used-same superclass (Return k) there = no-class (class_used_by program (return_operation k)) (return-none program k)
  used-same superclass (StaticField access m) there = slot-same access m there
  used-same superclass (FieldOf access m) there =
      no-class (class_used_by program (accesses_word access (word_named program m)))
      (field-none program access (word_named program m))
  used-same superclass (ArrayOf o) there = no-class (class_used_by program (array_operation program o))
      (array-none program o)
  used-same superclass (ClassOf NewObject name) there = new-same name there
  used-same superclass (ClassOf CheckCast name) there =
      no-class (class_used_by program (casts (type_of program name))) (casts-none program (type_of program name))
  used-same superclass (ClassOf InstanceOf name) there =
      no-class (class_used_by program (tests_type (type_of program name))) (tests-none program (type_of program name))
  used-same superclass (Invoke Virtual m) there =
      no-class (class_used_by program (calls_selected (selector_named program m)))
      (virtual-none program (selector_named program m))
  used-same superclass (Invoke Special m) there =
      no-class (class_used_by program (special_call program m (special_method program superclass m)
      (resolved_method program m)))
      (special-none program m (special_method program superclass m) (resolved_method program m))
  used-same superclass (Invoke Static m) there = call-same m
  used-same superclass (Invoke (Interface count) m) there =
      no-class (class_used_by program (calls_selected (selector_named program m)))
      (virtual-none program (selector_named program m))
  used-same superclass Throw there = tt
  used-same superclass (Monitor Enter) there = tt
  used-same superclass (Monitor Exit) there = tt
