-- The row of `run()V` in a class's selection table, and that it tells the method that is selected.
use Rattle.std.proofs.Common.{◌≡◌, ℕ, zero, suc, ◌+◌, ◌-◌, ◌<◌, ◌≤◌, List, [], ◌∷◌, ◌++◌, length, map, Bool, true}
use Rattle.std.proofs.Common.{false, ◌&&◌, not, cond, Option, Some, None, refl, sym, ap, arith, ◌∙◌}
use Rattle.std.specs.Prelude.{codes, is_some, slice_get, unwrap_or}
use Rattle.std.specs.List.{Contains, find, list_all}
use Rattle.std.specs.Option.{option_and_then, option_map, option_map_or}
use Rattle.std.specs.Str.{bytes_eq}
use Rattle.std.proofs.lemmas.List.{length-append}
use Rattle.std.proofs.lemmas.List.Elements.{All-contains}
use Rattle.std.proofs.lemmas.Option.{slice_get-map, slice_get_past}
use Rattle.std.proofs.lemmas.Slice.Eq.{bytes_eq-Decides}
use Rattle.model.specs.declared.listings.Method.{Method}
use Rattle.model.specs.declared.places.MethodPlace.{MethodPlace}
use Rattle.model.specs.Accepted.BuiltinNames.{has_builtin_name}
use Rattle.model.specs.ClassListings.{ClassListing}
use Rattle.model.specs.Classes.Builtin.{builtin_classes}
use Rattle.model.specs.Classes.Search.{Declared, first_declared, superclasses}
use Rattle.model.specs.Classes.Selection.{selected, virtual_of}
use Rattle.model.specs.Classes.SelectionTable.{SelectionRow, IsSelected}
use Rattle.resolve.specs.Hierarchies.{IsHierarchy}
use Rattle.resolve.specs.Numbers.{all_classes, class_names}
use Rattle.linking.specs.declared.selection_rows.SelectionRow.{SelectionRow as RowOfNumbers}
use Rattle.linking.specs.MethodFacts.{MethodFacts}
use Rattle.linking.specs.MethodTables.{body_of, class_methods, facts_at, method_facts, method_tables, own_methods}
use Rattle.linking.specs.Selections.{IsClassTable, IsPlaced, declared_at, is_virtual_of, method_in, row_of}
use Rattle.linking.specs.SelectionTables.{IsTableAt}
use Rattle.linking.proofs.MethodTableLemmas.{own-facts}
use Rattle.instructions.specs.declared.kinds.Kind.TheVariants.{Instance}
use Rattle.instructions.specs.CallsByNumbers.{place_if, selected_place}
use Rattle.instructions.specs.OwnCalls.{run_signature}
use Rattle.instructions.specs.Shown.{class_name, name_or_none}
use Rattle.instructions.specs.Starting.{is_own_run, is_run, is_run_row}
use Rattle.instructions.proofs.AcceptedClasses.{Unrefused}
use Rattle.instructions.proofs.ByNumberLemmas.{name-some}
use Rattle.instructions.proofs.CodeCalls.{none-above}
use Rattle.instructions.proofs.DeclaredMethods.{all-at}
use Rattle.instructions.proofs.SelectedRows.{inside-some, row-number, virtual-is}

and-both : (a b : Bool) → (a && b) ≡ true → (a ≡ true) × (b ≡ true)
and-both true b e = (refl, e)
and-both false b e = cc

-- ---- what is found in a list

module _ {A : Type 0} (p : A → Bool) where
  found-in : (xs : List A) (r : A) → find p xs ≡ Some r → Contains xs r × (p r ≡ true)
  found-in [] r e = cc
  found-in (x ∷ xs) r e = by (p x) refl (found-in xs r) e
    where
      by : (b : Bool) → p x ≡ b → (find p xs ≡ Some r → Contains xs r × (p r ≡ true)) → cond b (Some x) (find p xs)
          ≡ Some r
          → Contains (x ∷ xs) r × (p r ≡ true)
      by true h later e =
          let is : x ≡ r = ap (λ (o : Option A). unwrap_or o x) e in ((0, omega arith, is), ap p (sym is) ∙ h)
      by false h later e =
          let rest = later e in let inside : rest.0.0 < length xs = rest.0.1 in (
            (suc rest.0.0, omega arith, rest.0.2),
            rest.1,
          )

  none-in : (xs : List A) (r : A) → find p xs ≡ None → Contains xs r → p r ≡ true → ⊥
  none-in [] r e there h = absurd (omega (arith, there.1))
  none-in (x ∷ xs) r e (zero, inside, at) h = by (p x) refl e
    where
      by : (b : Bool) → p x ≡ b → cond b (Some x) (find p xs) ≡ None → ⊥
      by true is e = cc
      by false is e = differ (sym h ∙ ap p (sym at) ∙ is)
        where
          differ : true ≡ false → ⊥
          differ z = cc
  none-in (x ∷ xs) r e (suc k, inside, at) h = by (p x) (none-in xs r) e
    where
      by : (b : Bool) → (find p xs ≡ None → Contains xs r → p r ≡ true → ⊥) → cond b (Some x) (find p xs) ≡ None → ⊥
      by true later e = cc
      by false later e = later e (k, omega arith, at) h

record IsMapped {A B : Type 0} (f : A → B) (xs : List A) (y : B) : Type 0 where
  source : A
  there : Contains xs source
  is : f source ≡ y

mapped-in : {A B : Type 0} (f : A → B) (xs : List A) (y : B) → Contains (map f xs) y → IsMapped f xs y
mapped-in f [] y there = absurd (omega (arith, there.1))
mapped-in f (x ∷ xs) y (zero, inside, at) = record { source = x; there = (0, omega arith, refl); is = at }
mapped-in f (x ∷ xs) y (suc k, inside, at) =
    let rest = mapped-in f xs y (k, omega arith, at) in
    let place : rest.there.0 < length xs = rest.there.1 in
    record { source = rest.source; there = (suc rest.there.0, omega arith, rest.there.2); is = rest.is }

contains-map : {A B : Type 0} (f : A → B) (xs : List A) (x : A) → Contains xs x → Contains (map f xs) (f x)
contains-map f [] x there = absurd (omega (arith, there.1))
contains-map f (y ∷ ys) x (zero, inside, at) = (0, omega arith, ap f at)
contains-map f (y ∷ ys) x (suc k, inside, at) =
    let rest = contains-map f ys x (k, omega arith, at) in
    let place : rest.0 < length (map f ys) = rest.1 in
    (suc rest.0, omega arith, rest.2)

following : {A : Type 0} (xs ys : List A) (n : ℕ) → slice_get (xs ++ ys) (length xs + n) ≡ slice_get ys n
following [] ys n = let same : 0 + n ≡ n = omega arith in ap (slice_get ys) same
following (x ∷ xs) ys n =
    let next : length (x ∷ xs) + n ≡ suc (length xs + n) = omega arith in
    ap (slice_get (x ∷ (xs ++ ys))) next ∙ following xs ys n

length-map : {A B : Type 0} (f : A → B) (xs : List A) → length (map f xs) ≡ length xs
length-map f [] = refl
length-map f (x ∷ xs) = ap suc (length-map f xs)

-- ---- rows of the machine's own classes

abbrev same_bool : Bool → Bool → Bool
same_bool true b = b
same_bool false b = not b

same-bools : (a b : Bool) → same_bool a b ≡ true → a ≡ b
same-bools true b e = sym e
same-bools false false e = refl
same-bools false true e = cc

own-runs : list_all (λ (c : ClassListing). list_all
    (λ (m : Method). same_bool (is_run m) (is_own_run (body_of c.name m))) c.methods) builtin_classes ≡ true
unfolding builtin_classes
own-runs = refl

module _ (program : List ClassListing) where
  abbrev pub known_run : Option MethodFacts → Bool
  known_run facts = option_map_or (λ (f : MethodFacts). is_own_run f.body) facts false

  abbrev run_declared : Option (Declared Method) → Bool
  run_declared d = option_map_or (λ (d : Declared Method). is_run d.member) d false

  own-at : (n k : ℕ)
      → run_declared (option_and_then (method_in k) (slice_get builtin_classes n))
      ≡ known_run (facts_at (method_tables program) (record { class = length program + n; method = k }))
  own-at n k = by (slice_get builtin_classes n) refl
    where
      in-class : (c : ClassListing) → slice_get builtin_classes n ≡ Some c → (o : Option Method) → slice_get c.methods k
          ≡ o
          → run_declared (option_map (λ (m : Method). let d : Declared Method = record { class = c.name; member = m }
          in d) o)
          ≡ known_run (option_map (method_facts program c.name) o)
      in-class c at None there = refl
      in-class c at (Some m) there =
          same-bools (is_run m) (is_own_run (body_of c.name m))
          (all-at (λ (m : Method). same_bool (is_run m) (is_own_run (body_of c.name m))) c.methods k m
          (all-at (λ (c : ClassListing). list_all (λ (m : Method). same_bool (is_run m) (is_own_run (body_of c.name m)))
          c.methods) builtin_classes n c own-runs at) there)

      none : slice_get builtin_classes n ≡ None
          → facts_at (method_tables program) (record { class = length program + n; method = k }) ≡ None
      none e =
          let same : length program + n ≡ length (map (class_methods program) program) + n = ap (λ l. l + n)
          (sym (length-map (class_methods program) program)) in
          ap (λ class. option_and_then (λ (methods : List MethodFacts). slice_get methods k)
          (slice_get (method_tables program) class)) same
          ∙ ap (option_and_then (λ (methods : List MethodFacts). slice_get methods k))
          (following (map (class_methods program) program) (map (own_methods program) builtin_classes) n
          ∙ slice_get-map (own_methods program) builtin_classes n ∙ ap (option_map (own_methods program)) e)

      by : (o : Option ClassListing) → slice_get builtin_classes n ≡ o
          → run_declared (option_and_then (method_in k) o)
          ≡ known_run (facts_at (method_tables program) (record { class = length program + n; method = k }))
      by None e = sym (ap known_run (none e))
      by (Some c) e = in-class c e (slice_get c.methods k) refl ∙ sym (ap known_run (own-facts program n k c e))

  pub own-row : (r : RowOfNumbers) → length program ≤ r.class
      → known_run (facts_at (method_tables program) (record { class = r.class; method = r.method }))
      ≡ is_run_row program r
  own-row r past =
      let place : r.class ≡ length program + (r.class - length program) = omega (arith, past) in
      ap (λ class. known_run
      (facts_at (method_tables program) (let at : MethodPlace = record { class = class; method = r.method } in at)))
      place
      ∙ sym (own-at (r.class - length program) r.method)
      ∙ sym (ap (λ o. run_declared (option_and_then (method_in r.method) o))
      (ap (slice_get (all_classes program)) place ∙ following program builtin_classes (r.class - length program)))

-- ---- which classes there are

own-count : length builtin_classes ≡ 23
unfolding builtin_classes
own-count = refl

pub inside : (program : List ClassListing) (class : ℕ) → class < length program + 23
    → class < length (all_classes program)
inside program class less =
    let count = length-append program builtin_classes in
    let own = own-count in omega (arith, less, count, own)

module _ (program : List ClassListing) (hierarchy : IsHierarchy program) (hides : find has_builtin_name program ≡ None)
  where
    nothing-above : superclasses program [] ≡ []
    nothing-above = none-above program hierarchy hides (length program + 23)

    -- past the last class nothing is selected
    pub past-none : (class : ℕ) → length program + 23 ≤ class
        → None ≡ selected_place program run_signature (Instance class)
    past-none class past =
        let first = length-map (λ (c : ClassListing). c.name) program in
        let second = length-map (λ (c : ClassListing). c.name) builtin_classes in
        let own = own-count in
        let count = length-append (map (λ (c : ClassListing). c.name) program)
        (map (λ (c : ClassListing). c.name) builtin_classes) in
        let name : class_name program class ≡ [] =
        ap name_or_none (slice_get_past (class_names program) class (omega (arith, first, second, own, count, past))) in
        sym (ap (λ n. place_if program (selected program n (codes "run") (codes "()V"))) name
        ∙ ap (λ names. place_if program (first_declared program (virtual_of (codes "run") (codes "()V")) names))
        nothing-above)

-- ---- the row of `run()V`

module _ (program : List ClassListing) (free : Unrefused program) (hides : find has_builtin_name program ≡ None) where
  module _ (class : List ℕ) (rows : List RowOfNumbers) (table : IsClassTable program class rows) where
    abbrev run : List ℕ
    run = codes "run"

    abbrev no_arguments : List ℕ
    no_arguments = codes "()V"

    row-tells : (r : RowOfNumbers) → Contains rows r → declared_at program r ≡ Some (row_of program r).method
    row-tells r there = All-contains (IsPlaced program) rows r table.placed there

    some-row : (r : RowOfNumbers) → find (is_run_row program) rows ≡ Some r
        → Some (let at : MethodPlace = record { class = r.class; method = r.method } in at)
        ≡ place_if program (selected program class run no_arguments)
    some-row r e =
        let found = found-in (is_run_row program) rows r e in
        let d = (row_of program r).method in
        let tells = row-tells r found.0 in
        let names = and-both (bytes_eq d.member.name run) (bytes_eq d.member.descriptor no_arguments)
        (sym (ap (run_declared program) tells) ∙ found.1) in
        let name : d.member.name ≡ run = (bytes_eq-Decides d.member.name run).0 names.0 in
        let descriptor : d.member.descriptor ≡ no_arguments = (bytes_eq-Decides d.member.descriptor no_arguments).0
        names.1 in
        let given : selected program class d.member.name d.member.descriptor ≡ Some d =
        All-contains (IsSelected program class) (map (row_of program) rows) (row_of program r) table.table.given
        (contains-map (row_of program) rows r found.0) in
        let is : selected program class run no_arguments ≡ Some d =
        sym (ap (λ n. selected program class n no_arguments) name)
        ∙ sym (ap (selected program class d.member.name) descriptor) ∙ given in
        sym (row-number program free hides (is_virtual_of run no_arguments) d (virtual-is program free hides class run
        no_arguments d is) r tells)
        ∙ sym (ap (place_if program) is)

    none-row : find (is_run_row program) rows ≡ None → None ≡ place_if program (selected program class run no_arguments)
    none-row e = by (selected program class run no_arguments) refl
      where
        by : (o : Option (Declared Method)) → selected program class run no_arguments ≡ o → None ≡ place_if program o
        by None is = refl
        by (Some d) is =
            let row : SelectionRow = record { name = run; descriptor = no_arguments; method = d } in
            let mapped = mapped-in (row_of program) rows row (table.table.whole row is) in
            let r = mapped.source in
            let tells = row-tells r mapped.there in
            let name : (row_of program r).method.member.name ≡ run = ap (λ (x : SelectionRow). x.name) mapped.is in
            let descriptor : (row_of program r).method.member.descriptor
            ≡ no_arguments = ap (λ (x : SelectionRow). x.descriptor) mapped.is in
            absurd (none-in (is_run_row program) rows r e mapped.there
            (ap (run_declared program) tells
            ∙ ap (λ n. bytes_eq n run && bytes_eq (row_of program r).method.member.descriptor no_arguments) name
            ∙ ap (λ n. bytes_eq run run && bytes_eq n no_arguments) descriptor))

  pub row-place : (class : ℕ) (c : ClassListing) (rows : List RowOfNumbers) (row : Option RowOfNumbers)
      → slice_get (all_classes program) class ≡ Some c
      → IsTableAt program class rows → row ≡ find (is_run_row program) rows
      → option_map (λ (r : RowOfNumbers). let at : MethodPlace = record { class = r.class; method = r.method }
      in at) row
      ≡ selected_place program run_signature (Instance class)
  row-place class c rows row at table is =
      by row (sym is) ∙ sym (ap (λ n. place_if program (selected program n (codes "run") (codes "()V")))
      (name-some program class c at))
    where
      by : (row : Option RowOfNumbers) → find (is_run_row program) rows ≡ row
          → option_map (λ (r : RowOfNumbers). let at : MethodPlace = record { class = r.class; method = r.method }
          in at) row
          ≡ place_if program (selected program c.name (codes "run") (codes "()V"))
      by None e = none-row c.name rows (table c at) e
      by (Some r) e = some-row c.name rows (table c at) r e

  pub row-run : (class : ℕ) (rows : List RowOfNumbers) (row : Option RowOfNumbers)
      → class < length (all_classes program)
      → IsTableAt program class rows → row ≡ find (is_run_row program) rows
      → option_map (λ (r : RowOfNumbers). let at : MethodPlace = record { class = r.class; method = r.method }
      in at) row
      ≡ selected_place program run_signature (Instance class)
  row-run class rows row less table is = by (slice_get (all_classes program) class) refl
    where
      differ : {A : Type 0} (x : A) → Some x ≡ None → ⊥
      differ x e = cc

      by : (o : Option ClassListing) → slice_get (all_classes program) class ≡ o
          → option_map (λ (r : RowOfNumbers). let at : MethodPlace = record { class = r.class; method = r.method }
          in at) row
          ≡ selected_place program run_signature (Instance class)
      by None e = absurd (none-here e (inside-some (all_classes program) class less))
        where
          none-here : slice_get (all_classes program) class ≡ None → is_some (slice_get (all_classes program) class)
              ≡ true → ⊥
          none-here e k = let none : is_some (slice_get (all_classes program) class) ≡ false = ap is_some e in cc
      by (Some c) e = row-place class c rows row e table is
