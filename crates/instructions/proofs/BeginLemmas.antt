-- A thread that begins with a method: its frame has a local for the object and lies within its limits.
use Rattle.std.proofs.Common.{◌≡◌, ℕ, ◌+◌, ◌<◌, List, length, Bool, true, false, ◌&&◌, ◌||◌, not, Option, Some, None}
use Rattle.std.proofs.Common.{refl, sym, ap, arith, ◌∙◌}
use Rattle.std.specs.Prelude.{codes, if◌then◌else◌}
use Rattle.std.specs.List.{find}
use Rattle.std.specs.Option.{option_map}
use Rattle.model.specs.Accepted.BuiltinNames.{has_builtin_name}
use Rattle.model.specs.ClassListings.{ClassListing}
use Rattle.model.specs.Classes.Flags.{is_private, is_static}
use Rattle.model.specs.Classes.Search.{Declared}
use Rattle.model.specs.Classes.Selection.{selected}
use Rattle.model.specs.declared.listings.Method.{Method}
use Rattle.model.specs.declared.places.MethodPlace.{MethodPlace}
use Rattle.linking.specs.declared.method_tables.Body.{Body}
use Rattle.linking.specs.declared.method_tables.Body.TheVariants.{NoCode, Own, Coded}
use Rattle.linking.specs.MethodFacts.{MethodFacts}
use Rattle.linking.specs.MethodTables.{method_facts}
use Rattle.linking.specs.Selections.{is_pair, is_virtual_of}
use Rattle.instructions.specs.declared.acting.Begun.{Begun}
use Rattle.instructions.specs.declared.acting.Begun.TheVariants.{Ended as BegunEnded, Runs}
use Rattle.instructions.specs.declared.kinds.Course.{Course}
use Rattle.instructions.specs.declared.kinds.Kind.{Kind}
use Rattle.instructions.specs.declared.kinds.Kind.TheVariants.{Instance, Array}
use Rattle.instructions.specs.Acting.{CanBegin}
use Rattle.instructions.specs.CallsByNumbers.{is_static as is_static_known, known_at, place_if, place_of_number}
use Rattle.instructions.specs.OwnCalls.{begun_at, begun_by, begun_known, begun_of}
use Rattle.instructions.specs.Shown.{class_name}
use Rattle.instructions.proofs.AcceptedClasses.{Unrefused}
use Rattle.instructions.proofs.CallLemmas.{units_of_kinds}
use Rattle.instructions.proofs.DeclaredMethods as methods
use Rattle.instructions.proofs.DeclaredMethods.{IsFound, found-test}
use Rattle.instructions.proofs.MethodsKnown.{code_fits, units_called}
use Rattle.instructions.proofs.SelectedRows.{virtual-is}

both : (a b : Bool) → (a && b) ≡ true → (a ≡ true) × (b ≡ true)
both true b e = (refl, e)
both false b e = cc

neither : (a b : Bool) → not (a || b) ≡ true → a ≡ false
neither true b e = cc
neither false b e = refl

module _ (program : List ClassListing) (free : Unrefused program) (hides : find has_builtin_name program ≡ None)
    (courses : List Course)
    (few : length courses < 64) (birth : ℕ) where
  -- a method that is no static one
  of-known : (place : MethodPlace) (facts : MethodFacts) → known_at program place ≡ Some facts → is_static_known facts
      ≡ false
      → (begun : Begun) → begun_by place birth facts.body ≡ Some begun → CanBegin courses begun
  of-known place facts known instance begun e = by facts.body refl e
    where
      by : (body : Body) → facts.body ≡ body → begun_by place birth body ≡ Some begun → CanBegin courses begun
      by NoCode is k = cc
      by (Own builtin) is k = let same : BegunEnded ≡ begun = cc in rw (← same) few
      by (Coded max_locals max_stack) is k =
          let same : Runs place max_locals max_stack birth ≡ begun = cc in
          let fits = code_fits program free place facts max_locals max_stack known is in
          let arguments = fits.arguments in
          let object : units_called facts ≡ units_of_kinds facts.arguments + 1 =
          ap (λ b. units_of_kinds facts.arguments + (if b then 0 else 1)) instance in
          rw (← same) (few, omega (arith, arguments, object), fits.frame)

  pub can-begin : (kind : Kind) (begun : Begun) → begun_of program birth (Some kind) ≡ Some begun
      → CanBegin courses begun
  can-begin (Array type) begun e = cc
  can-begin (Instance class) begun e = by (selected program (class_name program class) (codes "run") (codes "()V")) refl
      e
    where
      by : (o : Option (Declared Method)) → selected program (class_name program class) (codes "run") (codes "()V") ≡ o
          → begun_at program birth (place_if program o) ≡ Some begun → CanBegin courses begun
      by None is k = cc
      by (Some d) is k =
          let test = is_virtual_of (codes "run") (codes "()V") in
          let found = virtual-is program free hides (class_name program class) (codes "run") (codes "()V") d is in
          let place = methods.where_it_is program free hides test d found in
          let known = methods.known program free hides test d found in
          let static = neither (is_static d.member) (is_private d.member)
          (both (is_pair (codes "run") (codes "()V") d.member.name d.member.descriptor) _
          (found-test program test d found)).1 in
          of-known place (method_facts program d.class d.member) known static begun
          (sym (ap (begun_known place birth) known)
          ∙ sym (ap (λ n. begun_at program birth (option_map place_of_number n))
          (methods.numbered program free hides test d found)) ∙ k)
