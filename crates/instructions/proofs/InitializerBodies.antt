-- The initializer of each class of an accepted program has code, within limits that the tables tell.
use Rattle.std.proofs.Common.{◌≡◌, ℕ, zero, suc, ◌+◌, ◌<◌, ◌≤◌, List, [], ◌∷◌, Bool, true, false, ◌&&◌, ◌||◌, ◌==◌, not}
use Rattle.std.proofs.Common.{cond, length, is_some, slice_get, nat_lt, Option, Some, None, refl, sym, ap, ◌∙◌, arith}
use Rattle.std.specs.Prelude.{codes}
use Rattle.std.specs.List.{list_any, position_or_len}
use Rattle.std.specs.Option.{option_and_then, option_map}
use Rattle.std.specs.Str.{bytes_eq}
use Rattle.std.proofs.lemmas.Bool.{ltb-false, ltb-true}
use Rattle.std.proofs.lemmas.Bool.Decides.{Decides-eqb}
use Rattle.std.proofs.lemmas.Option.{slice_get_past}
use Rattle.std.proofs.lemmas.Slice.Eq.{bytes_eq-Decides}
use Rattle.model.specs.declared.builtins.Builtin.{Builtin}
use Rattle.model.specs.declared.instructions.Instruction.TheVariants.{Return}
use Rattle.model.specs.declared.listings.Method.{Method}
use Rattle.model.specs.declared.names.Member.{Member}
use Rattle.model.specs.declared.places.MethodPlace.{MethodPlace}
use Rattle.model.specs.Accepted.RefusedMembers.{is_refused, is_wrong_initializer}
use Rattle.model.specs.Accepted.Refusals.{refusal_of}
use Rattle.model.specs.ClassListings.{ClassListing}
use Rattle.model.specs.Classes.Named.{builtin, or_else}
use Rattle.model.specs.CodeListings.{CodeListing}
use Rattle.model.specs.Frames.{opening_frame}
use Rattle.model.specs.Initialisation.{framed, initializer_in, initializer_place, started_at}
use Rattle.model.specs.Programs.{builtin_of, empty_initializer, is_class_initializer, is_member, is_own_initializer}
use Rattle.model.specs.Programs.{method_at, method_in}
use Rattle.linking.specs.declared.initializers.ClassInitializer.{ClassInitializer}
use Rattle.linking.specs.declared.method_tables.Body.{Body}
use Rattle.linking.specs.declared.method_tables.Body.TheVariants.{Coded, NoCode, Own}
use Rattle.linking.specs.Initializers.{initializers, place_in}
use Rattle.linking.specs.MethodFacts.{MethodFacts}
use Rattle.linking.specs.MethodTables.{body_by, facts_at, method_facts, method_tables}
use Rattle.linking.proofs.MethodTableLemmas.{initializer-place, program-facts}
use Rattle.linking.proofs.RunLemmas.{none_refused}
use Rattle.instructions.proofs.ListPlaces.{first_within, item-at}
use Rattle.instructions.proofs.UsedClasses.{choose}

-- ---- none of the machine's own methods has the name of an initializer

both : (a b : Bool) → (a && b) ≡ true → (a ≡ true) × (b ≡ true)
both true b e = (refl, e)
both false b e = cc

module _ (m : Member) (is : m.name ≡ codes "<clinit>") where
  other : (a c : Bool) (name : List ℕ) → bytes_eq (codes "<clinit>") name ≡ false
      → (a && bytes_eq m.name name && c) ≡ true → ⊥
  other a c name differs e =
      let named : bytes_eq m.name name
      ≡ true = (both a (bytes_eq m.name name) (both (a && bytes_eq m.name name) c e).0).1 in
      let same : true ≡ false = sym named ∙ ap (λ n. bytes_eq n name) is ∙ differs in
      cc

  not-member : (class name descriptor : List ℕ) → bytes_eq (codes "<clinit>") name ≡ false
      → is_member m class name descriptor ≡ true → ⊥
  not-member class name descriptor differs e = other (bytes_eq m.class class) (bytes_eq m.descriptor descriptor) name
      differs e

  not-first : is_own_initializer m ≡ true → ⊥
  not-first e = other (is_some (builtin m.class)) (bytes_eq m.descriptor (codes "()V")) (codes "<init>") refl e

  no-builtin : (b : Builtin) → builtin_of m ≡ Some b → ⊥
  no-builtin b e =
      choose _ _ _ b e (not-member (codes "vm/Sys") (codes "print") (codes "(I)V") refl)
      (λ e. choose _ _ _ b e (not-member (codes "vm/Sys") (codes "printl") (codes "(J)V") refl)
      (λ e. choose _ _ _ b e (not-member (codes "vm/Sys") (codes "putc") (codes "(I)V") refl)
      (λ e. choose _ _ _ b e (not-member (codes "java/lang/Thread") (codes "run") (codes "()V") refl)
      (λ e. choose _ _ _ b e (not-member (codes "java/lang/Thread") (codes "start") (codes "()V") refl)
      (λ e. choose _ _ _ b e (not-member (codes "java/lang/Thread") (codes "join") (codes "()V") refl)
      (λ e. choose _ _ _ b e not-first nothing))))))
    where
      nothing : None ≡ Some b → ⊥
      nothing e = cc

  none-own : (o : Option Builtin) → builtin_of m ≡ o → o ≡ None
  none-own None e = refl
  none-own (Some b) e = absurd (no-builtin b e)

not-own : (class : List ℕ) (m : Method) → is_class_initializer m ≡ true
    → builtin_of (record { class = class; name = m.name; descriptor = m.descriptor }) ≡ None
not-own class m e =
    none-own (record { class = class; name = m.name; descriptor = m.descriptor })
    ((bytes_eq-Decides m.name (codes "<clinit>")).0 e) _ refl

-- ---- it has code

either : (a b : Bool) → (a || b) ≡ false → (a ≡ false) × (b ≡ false)
either true b e = cc
either false b e = (refl, e)

coded : (a b : Bool) (code : Option CodeListing) → a ≡ true → (a && not (b && is_some code)) ≡ false
    → (c : CodeListing) × (code ≡ Some c)
coded a b (Some c) h e = (c, refl)
coded true true None h e = cc
coded true false None h e = cc
coded false b None h e = cc

unrefused-at : (program : List ClassListing) (name : List ℕ) (ms : List Method) (n : ℕ) (m : Method)
    → list_any (is_refused program name) ms ≡ false → slice_get ms n ≡ Some m → is_refused program name m ≡ false
unrefused-at program name [] n m none e = cc
unrefused-at program name (x ∷ xs) zero m none e =
    let same : x ≡ m = cc in
    ap (is_refused program name) (sym same) ∙ (either (is_refused program name x) _ none).0
unrefused-at program name (x ∷ xs) (suc n) m none e =
    unrefused-at program name xs n m (either (is_refused program name x) (list_any (is_refused program name) xs) none).1
    e

place-within : (p : Method → Bool) (ms : List Method) → position_or_len p ms ≤ length ms
place-within p [] = omega arith
place-within p (m ∷ ms) = by (p m) (place-within p ms) where
  by : (b : Bool) → position_or_len p ms ≤ length ms → cond (not b) (1 + position_or_len p ms) 0 ≤ suc (length ms)
  by true h = omega arith
  by false h = omega (arith, h)

-- a method that runs a class's initializer
record IsInitializer (program : List ClassListing) (c : ClassListing) : Type 0 where
  method : Method
  code : CodeListing
  there : method_in c (position_or_len is_class_initializer c.methods) ≡ Some method
  code_is : method.code ≡ Some code
  named : is_class_initializer method ≡ true

module _ (program : List ClassListing) (c : ClassListing) (none : list_any (is_refused program c.name) c.methods
    ≡ false) where
  abbrev place : ℕ
  place = position_or_len is_class_initializer c.methods

  initializer : IsInitializer program c
  initializer = by (nat_lt place (length c.methods)) refl where
    by : (b : Bool) → nat_lt place (length c.methods) ≡ b → IsInitializer program c
    by true h =
        let first = first_within is_class_initializer c.methods place refl (ltb-true place (length c.methods) h) in
        let fine = unrefused-at program c.name c.methods place first.item none first.there in
        let right : is_wrong_initializer first.item
        ≡ false = (either (is_wrong_initializer first.item) _ (either _ _ fine).0).0 in
        let code = coded (is_class_initializer first.item) _ first.item.code first.passes right in
        record {
          method = first.item;
          code = code.0;
          there = ap (λ o. or_else o (cond (place == length c.methods) (Some empty_initializer) None)) first.there;
          code_is = code.1;
          named = first.passes;
        }
    by false h =
        let past : length c.methods ≤ place = ltb-false place (length c.methods) h in
        let last : place ≡ length c.methods = omega (arith, past, place-within is_class_initializer c.methods) in
        record {
          method = empty_initializer;
          code = record {
            max_stack = 0;
            max_locals = 0;
            rows = [];
            instructions = record {
              pc = 0;
              next = 1;
              instruction = Return None;
            } ∷ [];
          };
          there =
              ap (λ o. or_else o (cond (place == length c.methods) (Some empty_initializer) None))
              (slice_get_past c.methods place past)
              ∙ ap (λ b. cond b (Some empty_initializer) None) ((Decides-eqb place (length c.methods)).1 last);
          code_is = refl;
          named = refl;
        }

-- ---- and its limits

pub record HasInitializer (program : List ClassListing) (class : ℕ) : Type 0 where
  pub locals : ℕ
  pub stack : ℕ
  pub facts : MethodFacts
  pub reported : facts_at (method_tables program) (place_in (initializers program) class) ≡ Some facts
  pub body : facts.body ≡ Coded locals stack
  pub starts : started_at program (initializer_place program class)
      ≡ opening_frame (initializer_place program class) locals stack ∷ []

pub initializer-there : (program : List ClassListing) (class : ℕ) → refusal_of program ≡ None → class < length program
    → HasInitializer program class
initializer-there program class accepted inside =
    let listed = item-at program class inside in
    by listed.0 listed.1
  where
    by : (c : ClassListing) → slice_get program class ≡ Some c → HasInitializer program class
    by c at =
        let found = initializer program c (none_refused program class c accepted at) in
        let there : method_at program (initializer_place program class) ≡ Some found.method =
        ap (λ o. option_and_then (λ (d : ClassListing). method_in d (initializer_in o)) o) at ∙ found.there in
        record {
          locals = found.code.max_locals;
          stack = found.code.max_stack;
          facts = method_facts program c.name found.method;
          reported =
              ap (facts_at (method_tables program)) (initializer-place program class)
              ∙ program-facts program (initializer_place program class) c at
              ∙ ap (option_map (method_facts program c.name)) there;
          body =
              ap (λ own. body_by own found.method.code) (not-own c.name found.method found.named)
              ∙ ap (λ code. body_by None code) found.code_is;
          starts =
              ap (framed (initializer_place program class))
              (ap (λ o. option_and_then (λ (m : Method). m.code) o) there ∙ found.code_is);
        }

-- ---- as the tables are read

module _ (program : List ClassListing) (class : ℕ) (accepted : refusal_of program ≡ None)
    (inside : class < length program)
    (o : Option MethodFacts) (tables : List (List MethodFacts)) (places : List ClassInitializer) (place : MethodPlace)
    (reported : o ≡ facts_at tables place) (tables_are : tables ≡ method_tables program) (placed : place
    ≡ place_in places class)
    (places_are : places ≡ initializers program) where
  abbrev there : HasInitializer program class
  there = initializer-there program class accepted inside

  found : o ≡ Some there.facts
  found =
      reported ∙ ap (λ tables. facts_at tables place) tables_are
      ∙ ap (facts_at (method_tables program)) (placed ∙ ap (λ places. place_in places class) places_are)
      ∙ there.reported

  body-is : (facts : MethodFacts) (body : Body) → o ≡ Some facts → body ≡ facts.body
      → body ≡ Coded there.locals there.stack
  body-is facts body some is =
      let same : facts ≡ there.facts = one (sym some ∙ found) in
      is ∙ ap (λ (facts : MethodFacts). facts.body) same ∙ there.body
    where
      one : {x y : MethodFacts} → Some x ≡ Some y → x ≡ y
      one e = cc

  pub read-coded : (facts : MethodFacts) (body : Body) (locals stack : ℕ) → o ≡ Some facts → body ≡ facts.body
      → body ≡ Coded locals stack
      → started_at program (initializer_place program class)
      ≡ opening_frame (initializer_place program class) locals stack ∷ []
  read-coded facts body locals stack some is coded =
      let same = sym coded ∙ body-is facts body some is in
      let locals_are : there.locals ≡ locals = cc in
      let stack_is : there.stack ≡ stack = cc in
      there.starts ∙ rw (locals_are, stack_is) refl

  pub read-own : (facts : MethodFacts) (body : Body) (builtin : Builtin) → o ≡ Some facts → body ≡ facts.body
      → body ≡ Own builtin → ⊥
  read-own facts body builtin some is own = let same = sym own ∙ body-is facts body some is in cc

  pub read-no_code : (facts : MethodFacts) (body : Body) → o ≡ Some facts → body ≡ facts.body → body ≡ NoCode → ⊥
  read-no_code facts body some is none = let same = sym none ∙ body-is facts body some is in cc

  pub read-none : o ≡ None → ⊥
  read-none none = let same = sym none ∙ found in cc
