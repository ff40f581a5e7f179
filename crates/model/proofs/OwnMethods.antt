-- Calls of the machine's own print, and what main returns, where the table looks them up by name.
use Rattle.std.proofs.Common.{◌≡◌, ℕ, suc, ◌+◌, ◌<◌, List, [], ◌∷◌, ◌++◌, Option, Some, None, Bool, true, false}
use Rattle.std.proofs.Common.{bytes_eq, refl, arith, ap, ◌∙◌}
use Rattle.std.proofs.lemmas.Slice.Eq.{bytes_eq-Decides}
use Rattle.std.proofs.lemmas.Bool.{ltb-true}
use Rattle.std.specs.Prelude.{◌&&◌, not, cond, codes, length, slice_get, is_some, nat_lt}
use Rattle.std.specs.List.{flat_map, position_or_len}
use Rattle.std.specs.Option.{option_map, option_map_or}
use Rattle.model.specs.declared.names.Member.{Member}
use Rattle.model.specs.declared.values.Value.{Value}
use Rattle.model.specs.declared.values.Value.TheVariants.{Int, Long, Ref}
use Rattle.model.specs.declared.values.Kind.TheVariants.{Int as IntKind}
use Rattle.model.specs.declared.builtins.Builtin.TheVariants.{PrintInt, PrintLong, PutByte, Initialize, RunThread}
use Rattle.model.specs.declared.builtins.Builtin.TheVariants.{StartThread, JoinThread}
use Rattle.model.specs.declared.listings.Method.{Method}
use Rattle.model.specs.declared.places.MethodPlace.{MethodPlace}
use Rattle.model.specs.declared.instructions.Invocation.TheVariants.{Static}
use Rattle.model.specs.ClassListings.{ClassListing}
use Rattle.model.specs.Signatures.{result_kind}
use Rattle.model.specs.Classes.Builtin.{builtin_classes, builtin_class, print_methods, static_method}
use Rattle.model.specs.Classes.Flags.{is_static}
use Rattle.model.specs.Classes.Named.{class_named, listed, or_else}
use Rattle.model.specs.Classes.Search.{Declared, upwards, with_superclasses, superclasses, superinterfaces}
use Rattle.model.specs.Classes.Search.{method_order, declared_in, first_declared}
use Rattle.model.specs.Classes.Resolution.{method_of, resolved_method}
use Rattle.model.specs.Callees.{callee_of}
use Rattle.model.specs.Callees.Callee.{Own}
use Rattle.model.specs.Initialisation.{is_initializer_if}
use Rattle.model.specs.Programs.{is_member, builtin_of, method_at, is_main, main_in}
use Rattle.model.specs.Frames.{int_on}
use Rattle.model.specs.Printing.{decimal_line}
use Rattle.model.specs.Completions.{Completion, Site}
use Rattle.model.specs.Completions.Completion.{Faults}
use Rattle.model.specs.Table.Builtins.{prints_on}
use Rattle.model.specs.Table.Invokes.{fault_in_pops, invoked}
use Rattle.model.specs.Table.Returns.{gives, same_result}

both : (a b : Bool) → (a && b) ≡ true → (a ≡ true) × (b ≡ true)
both true b e = (refl, e)
both false b e = absurd (cc)

-- ---- the machine's own print

unfoldable pub print : Member
print = record { class = codes "vm/Sys"; name = codes "print"; descriptor = codes "(I)V" }

-- nothing else is the print of an int
first_of_seven : (a b c d e f g : Bool)
    → cond a (Some PrintInt)
    (cond b (Some PrintLong)
    (cond c (Some PutByte)
    (cond d (Some RunThread) (cond e (Some StartThread) (cond f (Some JoinThread) (cond g (Some Initialize) None))))))
    ≡ Some PrintInt → a ≡ true
first_of_seven true b c d e f g h = refl
first_of_seven false true c d e f g h = absurd (cc)
first_of_seven false false true d e f g h = absurd (cc)
first_of_seven false false false true e f g h = absurd (cc)
first_of_seven false false false false true f g h = absurd (cc)
first_of_seven false false false false false true g h = absurd (cc)
first_of_seven false false false false false false true h = absurd (cc)
first_of_seven false false false false false false false h = absurd (cc)

names_print : (m : Member) → builtin_of m ≡ Some PrintInt → is_member m (codes "vm/Sys") (codes "print") (codes "(I)V")
    ≡ true
names_print m h = first_of_seven (is_member m (codes "vm/Sys") (codes "print") (codes "(I)V")) _ _ _ _ _ _ h

made_of : (class name descriptor : List ℕ) → class ≡ codes "vm/Sys" → name ≡ codes "print" → descriptor ≡ codes "(I)V"
    → (let m : Member = record { class = class; name = name; descriptor = descriptor } in m ≡ print)
unfolding print
made_of class name descriptor p q r = rw (p, q, r) refl

pub is_print : (m : Member) → builtin_of m ≡ Some PrintInt → m ≡ print
is_print m h =
    let all = both (bytes_eq m.class (codes "vm/Sys") && bytes_eq m.name (codes "print"))
    (bytes_eq m.descriptor (codes "(I)V")) (names_print m h) in
    let first = both (bytes_eq m.class (codes "vm/Sys")) (bytes_eq m.name (codes "print")) all.0 in
    made_of m.class m.name m.descriptor ((bytes_eq-Decides m.class (codes "vm/Sys")).0 first.0)
    ((bytes_eq-Decides m.name (codes "print")).0 first.1) ((bytes_eq-Decides m.descriptor (codes "(I)V")).0 all.1)

-- where no class of the program has the name of its class, a reference to it is resolved to it
sys : ClassListing
sys = builtin_class (codes "vm/Sys") (codes "java/lang/Object") print_methods

sys_named : (program : List ClassListing) → listed program (codes "vm/Sys") ≡ None
    → class_named program (codes "vm/Sys") ≡ Some sys
unfolding builtin_classes sys
sys_named program none = rw none refl

sys_first : (steps : ℕ) (program : List ClassListing) → class_named program (codes "vm/Sys") ≡ Some sys
    → upwards (suc steps) program (codes "vm/Sys") ≡ codes "vm/Sys" ∷ upwards steps program sys.superclass
unfolding upwards
sys_first steps program e = ap (λ (o : Option ClassListing). with_superclasses (codes "vm/Sys")
    (λ superclass. upwards steps program superclass) o) e

declared_there : (more : Option (Declared Method)) (o : Option ClassListing) → o ≡ Some sys
    → or_else (declared_in (λ c. method_of (codes "print") (codes "(I)V") c) (codes "vm/Sys") o) more
    ≡ Some (record { class = codes "vm/Sys"; member = static_method (codes "print") (codes "(I)V") })
unfolding sys
declared_there more o e = rw e refl

found_there : (program : List ClassListing) (names more : List (List ℕ)) → names ≡ codes "vm/Sys" ∷ more
    → class_named program (codes "vm/Sys") ≡ Some sys
    → first_declared program (λ c. method_of (codes "print") (codes "(I)V") c) names
    ≡ Some (record { class = codes "vm/Sys"; member = static_method (codes "print") (codes "(I)V") })
found_there program names more e named = rw e
    (declared_there (first_declared program (λ c. method_of (codes "print") (codes "(I)V") c) more)
    (class_named program (codes "vm/Sys")) named)

pub print_resolved : (program : List ClassListing) → listed program (codes "vm/Sys") ≡ None
    → resolved_method program print
    ≡ Some (record { class = codes "vm/Sys"; member = static_method (codes "print") (codes "(I)V") })
unfolding print
print_resolved program none =
    let named = sys_named program none in
    let s : length program + 23 ≡ suc (length program + 22) = omega arith in
    let first : superclasses program (codes "vm/Sys") ≡ codes "vm/Sys" ∷ upwards (length program + 22) program
    sys.superclass = rw s (sys_first (length program + 22) program named) in
    let all = ap (λ (names : List (List ℕ)). names ++ flat_map (superinterfaces program)
    (superclasses program (codes "vm/Sys"))) first in
    found_there program (method_order program (codes "vm/Sys")) _ all named

print_callee : (program : List ClassListing) → listed program (codes "vm/Sys") ≡ None
    → callee_of program (resolved_method program print) ≡ Own PrintInt
print_callee program none = ap (callee_of program) (print_resolved program none)

-- the operand is tested when it is popped
popped : (stack : List Value) (s : Site) (further : Completion) → further ≡ prints_on s decimal_line (int_on stack)
    → option_map_or Faults (fault_in_pops (IntKind ∷ []) stack) further ≡ prints_on s decimal_line (int_on stack)
popped [] s further e = refl
popped (Int z ∷ vs) s further e = e
popped (Long z ∷ vs) s further e = refl
popped (Ref r ∷ vs) s further e = refl

print_invoked : (s : Site) → listed s.program (codes "vm/Sys") ≡ None → invoked s Static print
    ≡ prints_on s decimal_line (int_on s.frame.stack)
unfolding print
print_invoked s none = popped s.frame.stack s _ (rw (print_callee s.program none) refl)

-- a call of the print of an int prints
pub print_called : (s : Site) (m : Member) → builtin_of m ≡ Some PrintInt → listed s.program (codes "vm/Sys") ≡ None
    → invoked s Static m ≡ prints_on s decimal_line (int_on s.frame.stack)
print_called s m h none = rw (is_print m h) (print_invoked s none)

-- ---- main returns nothing

main_gives_nothing : (m : Method) → is_main m ≡ true → gives None (Some m) ≡ true
main_gives_nothing m h =
    let e = (bytes_eq-Decides m.descriptor (codes "()V")).0
    (both (is_static m && is_some m.code && bytes_eq m.name (codes "main")) (bytes_eq m.descriptor (codes "()V"))
    h).1 in
    ap (λ (d : List ℕ). same_result None (result_kind d)) e

abbrev PassesIn : (Method → Bool) → List Method → Type 0
PassesIn p ms = (m : Method) × (slice_get ms (position_or_len p ms) ≡ Some m) × (p m ≡ true)

passes_on : (p : Method → Bool) (m : Method) (ms : List Method) (b : Bool) → p m ≡ b
    → position_or_len p (m ∷ ms) < suc (length ms) → (position_or_len p ms < length ms → PassesIn p ms)
    → PassesIn p (m ∷ ms)
passes_on p m ms true e h later =
    let at : position_or_len p (m ∷ ms) ≡ 0 = ap (λ (b : Bool). cond (not b) (1 + position_or_len p ms) 0) e
    in (m, ap (slice_get (m ∷ ms)) at, e)
passes_on p m ms false e h later =
    let at : position_or_len p (m ∷ ms)
    ≡ suc (position_or_len p ms) = ap (λ (b : Bool). cond (not b) (1 + position_or_len p ms) 0) e ∙ omega arith in
    let found = later (omega (arith, at, h)) in
    (found.0, ap (slice_get (m ∷ ms)) at ∙ found.1, found.2)

passes_at : (p : Method → Bool) (ms : List Method) → position_or_len p ms < length ms → PassesIn p ms
passes_at p [] h = absurd (omega (arith, h))
passes_at p (m ∷ ms) h = passes_on p m ms (p m) refl h (passes_at p ms)

-- what holds of every main method holds of the one at the place of main
pub main_has : (P : Option Method → Type 0) → ((m : Method) → is_main m ≡ true → P (Some m))
    → (program : List ClassListing) (place : MethodPlace) → main_in program ≡ Some place → P (method_at program place)
main_has P all [] place h = absurd (cc)
main_has P all (c ∷ cs) place h = go (nat_lt (position_or_len is_main c.methods) (length c.methods)) refl h
  where
    go : (b : Bool) → nat_lt (position_or_len is_main c.methods) (length c.methods) ≡ b
        → option_map (λ (n : ℕ). let place : MethodPlace = record { class = 0; method = n } in place)
        (cond b (Some (position_or_len is_main c.methods)) None) ≡ Some place
        → P (method_at (c ∷ cs) place)
    go false e k = absurd (cc)
    go true e k =
        let there = passes_at is_main c.methods (ltb-true (position_or_len is_main c.methods) (length c.methods) e) in
        let at : place ≡ record { class = 0; method = position_or_len is_main c.methods } = cc in
        rw (at, there.1) (all there.0 there.2)

pub main_gives : (program : List ClassListing) (place : MethodPlace) → main_in program ≡ Some place
    → gives None (method_at program place) ≡ true
main_gives = main_has (λ (m : Option Method). gives None m ≡ true) main_gives_nothing

-- main is no class initializer
main_initializes_nothing : (m : Method) → is_main m ≡ true → is_initializer_if (Some m) ≡ false
main_initializes_nothing m h =
    let named = (both (is_static m && is_some m.code) (bytes_eq m.name (codes "main"))
    (both (is_static m && is_some m.code && bytes_eq m.name (codes "main")) (bytes_eq m.descriptor (codes "()V"))
    h).0).1 in
    ap (λ (name : List ℕ). bytes_eq name (codes "<clinit>")) ((bytes_eq-Decides m.name (codes "main")).0 named)

pub main_initializes : (program : List ClassListing) (place : MethodPlace) → main_in program ≡ Some place
    → is_initializer_if (method_at program place) ≡ false
main_initializes = main_has (λ (m : Option Method). is_initializer_if m ≡ false) main_initializes_nothing
