-- Rows that tell what is selected make the selection table of a class.
use Rattle.std.proofs.Common.{◌≡◌, ℕ, zero, suc, ◌<◌, List, [], ◌∷◌, length, get_or, map, slice_get, Bool, Bor, true}
use Rattle.std.proofs.Common.{false, cond, ◌&&◌, Option, Some, None, unwrap_or, Less, Ordering, refl, sym, ap, subst}
use Rattle.std.proofs.Common.{◌∙◌, arith}
use Rattle.std.proofs.lemmas.Cmp.{eq_by_cmp_equiv, nat_list_cmp_total, on_total, then_total}
use Rattle.std.proofs.lemmas.List.Elements.{All-contains, All-contains_itself, All-map, recursion_from_All}
use Rattle.std.proofs.lemmas.Map.Entries.{place_from_lookup}
use Rattle.std.proofs.lemmas.Map.Keys.{IsDistinct-from_sorted}
use Rattle.std.proofs.lemmas.Map.Views.{lookup-from_Contains}
use Rattle.std.proofs.lemmas.Slice.Eq.{bytes_eq-Decides}
use Rattle.std.specs.BTreeMap.{is_at}
use Rattle.std.specs.Cmp.{IsTotalOrder}
use Rattle.std.specs.List.{All, AllByRecursion, Contains, find}
use Rattle.std.specs.List.Sorted.{IsStrictlySortedBy}
use Rattle.std.specs.Map.{keys_of, lookup, values_of}
use Rattle.std.specs.Option.{option_map}
use Rattle.std.specs.Str.{bytes_eq}
use Rattle.model.specs.declared.listings.Method.{Method}
use Rattle.model.specs.ClassListings.{ClassListing}
use Rattle.model.specs.Classes.Search.{Declared}
use Rattle.model.specs.Classes.Selection.{selected}
use Rattle.model.specs.Classes.SelectionTable.{SelectionRow, compared, IsSelected, IsSelectionTable}
use Rattle.linking.specs.declared.selection_rows.SelectionRow.{SelectionRow as RowOfNumbers}
use Rattle.linking.specs.Selections.{pair_cmp, declared_at, IsClassTable, IsPlaced, no_method, row_named, row_of}
use Rattle.linking.specs.Selections.{row_with}
use Rattle.linking.proofs.SelectionLemmas.{both, selected-signature, Tells}

-- ---- what is told of one row

-- the row of a name and descriptor
abbrev row_at : List ℕ → List ℕ → Declared Method → SelectionRow
row_at n d x = record { name = n; descriptor = d; method = x }

row-is : (program : List ClassListing) (r : RowOfNumbers) (n d : List ℕ) (x : Declared Method) → declared_at program r
    ≡ Some x
    → (x.member.name ≡ n) × (x.member.descriptor ≡ d) → row_of program r ≡ row_at n d x
row-is program r n d x tells named =
    ap (λ (o : Option (Declared Method)). row_with (unwrap_or o no_method)) tells
    ∙ ap (λ (name : List ℕ). row_at name x.member.descriptor x) named.0
    ∙ ap (λ (descriptor : List ℕ). row_at n descriptor x) named.1

-- a row that is reported by a look-up of what is selected
reported-row : (program : List ClassListing) (r : RowOfNumbers) (s : Option (Declared Method))
    → option_map (declared_at program) (Some r) ≡ option_map Some s
    → (x : Declared Method) × (declared_at program r ≡ Some x) × (s ≡ Some x)
reported-row program r None e = cc
reported-row program r (Some x) e = (x, ap (λ (o : Option (Option (Declared Method))). unwrap_or o None) e, refl)

reported-none : (program : List ClassListing) (s : Option (Declared Method)) → option_map (declared_at program) None
    ≡ option_map Some s → s ≡ None
reported-none program None e = refl
reported-none program (Some x) e = cc

found-row : (program : List ClassListing) (o : Option RowOfNumbers) (s : Option (Declared Method)) (x : Declared Method)
    → option_map (declared_at program) o ≡ option_map Some s → s ≡ Some x → (r : RowOfNumbers) × (o ≡ Some r)
    × (declared_at program r ≡ Some x)
found-row program None s x e is = absurd (none (e ∙ ap (option_map Some) is))
  where
    none : None ≡ Some (Some x) → ⊥
    none h = cc
found-row program (Some r) s x e is = (
  r,
  refl,
  ap (λ (o : Option (Option (Declared Method))). unwrap_or o None) (e
      ∙ ap (option_map Some) is),
)

-- ---- the table of the entries of a map

-- a name and a descriptor, as the map of a class's rows has them
abbrev Key : Type 0
Key = Bor (List ℕ) × Bor (List ℕ)

abbrev Entry : Type 0
Entry = Key × RowOfNumbers

abbrev before : Key → Key → Ordering
before k l = pair_cmp k.0.now k.1.now l.0.now l.1.now

before_total : IsTotalOrder before
before_total = then_total (on_total (λ (k : Key). k.0.now) nat_list_cmp_total)
    (on_total (λ (k : Key). k.1.now) nat_list_cmp_total)

abbrev entry_at : List Entry → List ℕ → List ℕ → Option RowOfNumbers
entry_at es n d = lookup (is_at (λ (k : Key). pair_cmp n d k.0.now k.1.now)) es

contains-values : (f : RowOfNumbers → SelectionRow) (es : List Entry) (i : ℕ) (k : Key) (r : RowOfNumbers)
    → slice_get es i ≡ Some (k, r)
    → Contains (map f (values_of es)) (f r)
contains-values f [] i k r h = cc
contains-values f (e ∷ es) zero k r h = (0, omega arith, ap (λ (o : Option Entry). f (unwrap_or o e).1) h)
contains-values f (e ∷ es) (suc i) k r h =
    let rest : Contains (map f (values_of es)) (f r) = contains-values f es i k r h in
    let inside : rest.0 < length (map f (values_of es)) = rest.1 in
    (suc rest.0, omega arith, rest.2)

module _ (program : List ClassListing) (class : List ℕ) where
  -- an entry's row tells the method that is selected for its key
  record Stands (e : Entry) : Type 0 where
    method : Declared Method
    tells : declared_at program e.1 ≡ Some method
    named : (method.member.name ≡ e.0.0.now) × (method.member.descriptor ≡ e.0.1.now)
    is : selected program class e.0.0.now e.0.1.now ≡ Some method

  keyed : (e : Entry) (s : Stands e) → row_of program e.1 ≡ row_at e.0.0.now e.0.1.now s.method
  keyed e s = row-is program e.1 e.0.0.now e.0.1.now s.method s.tells s.named

  stands : (es : List Entry) → IsStrictlySortedBy before (keys_of es) → Tells program class (entry_at es) → (e : Entry)
      → Contains es e → Stands e
  stands es ordered tells e h =
      let at : entry_at es e.0.0.now e.0.1.now ≡ Some e.1 =
      lookup-from_Contains (eq_by_cmp_equiv before_total) e.0 e.1 es (IsDistinct-from_sorted before (keys_of es)
      ordered) h in
      let reported = reported-row program e.1 (selected program class e.0.0.now e.0.1.now)
      (ap (option_map (declared_at program)) (sym at) ∙ tells e.0.0.now e.0.1.now) in
      record {
        method = reported.0;
        tells = reported.1;
        named = selected-signature program class e.0.0.now e.0.1.now
            reported.0 reported.2;
        is = reported.2;
      }

  rise : (e f : Entry) → Stands e → Stands f → before e.0 f.0 ≡ Less
      → compared (row_of program e.1) (row_of program f.1) ≡ Less
  rise e f s t less =
      ap (λ (r : SelectionRow). compared r (row_of program f.1)) (keyed e s)
      ∙ ap (compared (row_at e.0.0.now e.0.1.now s.method)) (keyed f t) ∙ less

  all-rise : (e : Entry) (es : List Entry) → Stands e → AllByRecursion (λ k. before e.0 k ≡ Less) (keys_of es)
      → AllByRecursion Stands es
      → AllByRecursion (λ r. compared (row_of program e.1) r ≡ Less) (map (row_of program) (values_of es))
  all-rise e [] s above hs = tt
  all-rise e (f ∷ es) s above hs = (rise e f s hs.0 above.0, all-rise e es s above.1 hs.1)

  rising : (es : List Entry) → IsStrictlySortedBy before (keys_of es) → AllByRecursion Stands es
      → IsStrictlySortedBy compared (map (row_of program) (values_of es))
  unfolding IsStrictlySortedBy
  rising [] ordered hs = tt
  rising (e ∷ es) ordered hs = (all-rise e es hs.0 ordered.0 hs.1, rising es ordered.1 hs.1)

  given : (e : Entry) → Stands e → IsSelected program class (row_of program e.1)
  given e s = subst (IsSelected program class) (sym (keyed e s)) s.is

  placed : (e : Entry) → Stands e → IsPlaced program e.1
  placed e s = s.tells ∙ ap (λ (r : SelectionRow). Some r.method) (sym (keyed e s))

  whole : (es : List Entry) → Tells program class (entry_at es) → (row : SelectionRow) → IsSelected program class row
      → Contains (map (row_of program) (values_of es)) row
  whole es tells row is =
      let found = found-row program (entry_at es row.name row.descriptor)
      (selected program class row.name row.descriptor) row.method
      (tells row.name row.descriptor) is in
      let place = place_from_lookup (is_at (λ (k : Key). pair_cmp row.name row.descriptor k.0.now k.1.now)) es found.0
      found.1 in
      subst (λ (r : SelectionRow). Contains (map (row_of program) (values_of es)) r)
      (row-is program found.0 row.name row.descriptor row.method found.2
      (selected-signature program class row.name row.descriptor row.method is))
      (contains-values (row_of program) es place.0 place.1 found.0 place.2)

  pub class-table : (es : List Entry) → IsStrictlySortedBy before (keys_of es) → Tells program class (entry_at es)
      → IsClassTable program class (values_of es)
  class-table es ordered tells =
      let all : All Stands es = λ k e h. stands es ordered tells (get_or es k e) (All-contains_itself es k e h) in
      record {
        table = record {
          rising = rising es ordered (recursion_from_All Stands es all);
          given = All-map (IsSelected program class) (row_of program) (values_of es)
              (All-map (λ r. IsSelected program class (row_of program r)) (λ (e : Entry). e.1) es
              (λ k e h. given (get_or es k e) (all k e h)));
          whole = whole es tells;
        };
        placed = All-map (IsPlaced program) (λ (e : Entry). e.1) es (λ k e h. placed (get_or es k e) (all k e h));
      }

-- ---- the row of a name and descriptor in a table

module _ (p : SelectionRow → Bool) where
  found-in : (rows : List SelectionRow) (r : SelectionRow) → find p rows ≡ Some r → Contains rows r × (p r ≡ true)
  found-in [] r e = cc
  found-in (x ∷ xs) r e = by (p x) refl (found-in xs r) e
    where
      by : (b : Bool) → p x ≡ b → (find p xs ≡ Some r → Contains xs r × (p r ≡ true)) → cond b (Some x) (find p xs)
          ≡ Some r
          → Contains (x ∷ xs) r × (p r ≡ true)
      by true h later e =
          let is : x ≡ r = ap (λ (o : Option SelectionRow). unwrap_or o x) e
          in ((0, omega arith, is), ap p (sym is) ∙ h)
      by false h later e =
          let rest = later e in let inside : rest.0.0 < length xs = rest.0.1 in (
            (suc rest.0.0, omega arith, rest.0.2),
            rest.1,
          )

  none-in : (rows : List SelectionRow) (r : SelectionRow) → find p rows ≡ None → Contains rows r → p r ≡ true → ⊥
  none-in [] r e there h = absurd (omega (arith, there.1))
  none-in (x ∷ xs) r e (zero, inside, at) h = by (p x) refl e
    where
      by : (b : Bool) → p x ≡ b → cond b (Some x) (find p xs) ≡ None → ⊥
      by true is e = cc
      by false is e = differ (sym h ∙ ap p (sym at) ∙ is)
        where
          differ : true ≡ false → ⊥
          differ z = cc
  none-in (x ∷ xs) r e (suc k, inside, at) h = by (p x) (none-in xs r) e
    where
      by : (b : Bool) → (find p xs ≡ None → Contains xs r → p r ≡ true → ⊥) → cond b (Some x) (find p xs) ≡ None → ⊥
      by true later e = cc
      by false later e = later e (k, omega arith, at) h

abbrev is_row : List ℕ → List ℕ → SelectionRow → Bool
is_row n d r = bytes_eq r.name n && bytes_eq r.descriptor d

module _ (program : List ClassListing) (class n d : List ℕ) where
  named-row : (rows : List SelectionRow) → IsSelectionTable program class rows → row_named n d rows
      ≡ option_map (row_at n d) (selected program class n d)
  named-row rows table = by (row_named n d rows) (selected program class n d) refl refl
    where
      by : (o : Option SelectionRow) (s : Option (Declared Method)) → row_named n d rows ≡ o
          → selected program class n d ≡ s → o ≡ option_map (row_at n d) s
      by None None e is = refl
      by None (Some x) e is =
          let first : bytes_eq n n ≡ true = (bytes_eq-Decides n n).1 refl in
          let second : bytes_eq d d ≡ true = (bytes_eq-Decides d d).1 refl in
          absurd (none-in (is_row n d) rows (row_at n d x) e (table.whole (row_at n d x) is) (rw (first, second) refl))
      by (Some r) s e is =
          let found = found-in (is_row n d) rows r e in
          let equal = both (bytes_eq r.name n) (bytes_eq r.descriptor d) found.1 in
          let name : r.name ≡ n = (bytes_eq-Decides r.name n).0 equal.0 in
          let descriptor : r.descriptor ≡ d = (bytes_eq-Decides r.descriptor d).0 equal.1 in
          let reported : selected program class n d ≡ Some r.method =
          sym (ap (λ (x : List ℕ). selected program class x d) name)
          ∙ sym (ap (selected program class r.name) descriptor)
          ∙ All-contains (IsSelected program class) rows r table.given found.0 in
          ap (λ (x : List ℕ). Some (row_at x r.descriptor r.method)) name
          ∙ ap (λ (x : List ℕ). Some (row_at n x r.method)) descriptor
          ∙ ap (option_map (row_at n d)) (sym reported ∙ is)

  pub lent-row : (row : Option RowOfNumbers) → option_map (declared_at program) row
      ≡ option_map Some (selected program class n d)
      → (rows : List SelectionRow) → IsSelectionTable program class rows → option_map (row_of program) row
      ≡ row_named n d rows
  lent-row row tells rows table = by row tells ∙ sym (named-row rows table)
    where
      by : (row : Option RowOfNumbers) → option_map (declared_at program) row
          ≡ option_map Some (selected program class n d)
          → option_map (row_of program) row ≡ option_map (row_at n d) (selected program class n d)
      by None e = sym (ap (option_map (row_at n d)) (reported-none program (selected program class n d) e))
      by (Some r) e =
          let reported = reported-row program r (selected program class n d) e in
          ap Some (row-is program r n d reported.0 reported.1 (selected-signature program class n d reported.0
          reported.2))
          ∙ sym (ap (option_map (row_at n d)) reported.2)
