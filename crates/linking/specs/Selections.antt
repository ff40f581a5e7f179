use Rattle.std.specs.Prelude.{◌≡◌, ℕ, List, [], ◌∷◌, Bool, ◌&&◌, ◌||◌, not, map, cond, slice_get, suc, Option, Some}
use Rattle.std.specs.Prelude.{None, unwrap_or}
use Rattle.std.specs.Borrow.{Bor}
use Rattle.std.specs.BTreeMap.{is_at, IsOrdered}
use Rattle.std.specs.Cmp.Lexicographic.{slice_cmp}
use Rattle.std.specs.List.{All, find}
use Rattle.std.specs.Map.{lookup}
use Rattle.std.specs.Option.{option_and_then, option_map}
use Rattle.std.specs.Ordering.{nat_cmp, ordering_then}
use Rattle.std.specs.declared.cmp.Ordering.{Ordering}
use Rattle.std.specs.Str.{bytes_eq}
use Rattle.model.specs.declared.listings.Method.{Method}
use Rattle.model.specs.ClassListings.{ClassListing}
use Rattle.model.specs.Classes.Builtin.{native}
use Rattle.model.specs.Classes.Flags.{is_private, is_static}
use Rattle.model.specs.Classes.Named.{or_else}
use Rattle.model.specs.Classes.Search.{Declared}
use Rattle.model.specs.Classes.Selection.{selected}
use Rattle.model.specs.Classes.SelectionTable.{SelectionRow, IsSelectionTable}
use Rattle.resolve.specs.Numbers.{all_classes}
use Rattle.linking.specs.declared.selection_rows.SelectionRow.{SelectionRow as RowOfNumbers}
use Rattle.linking.specs.declared.selection_rows.ClassRows.{ClassRows}

-- ---- rows of numbers, and what they stand for

-- the method at a place among those of a class
abbrev pub method_in : ℕ → ClassListing → Option (Declared Method)
method_in place c = option_map (λ (m : Method). record { class = c.name; member = m }) (slice_get c.methods place)

-- the method that a row tells by the number of its class and its place there
abbrev pub declared_at : List ClassListing → RowOfNumbers → Option (Declared Method)
declared_at program r = option_and_then (method_in r.method) (slice_get (all_classes program) r.class)

-- a method beside its name and descriptor
abbrev pub row_with : Declared Method → SelectionRow
row_with d = record { name = d.member.name; descriptor = d.member.descriptor; method = d }

-- what stands for a row that tells no method; no table has one
abbrev pub no_method : Declared Method
no_method = record { class = []; member = native 0 [] [] }

abbrev pub row_of : List ClassListing → RowOfNumbers → SelectionRow
row_of program r = row_with (unwrap_or (declared_at program r) no_method)

-- a row tells a method
abbrev pub IsPlaced : List ClassListing → RowOfNumbers → Type 0
IsPlaced program r = declared_at program r ≡ Some (row_of program r).method

-- ---- the rows of a class while they are gathered

-- whether a method can be selected for an object
abbrev pub is_virtual : Method → Bool
is_virtual m = not (is_static m || is_private m)

-- whether a name and descriptor are these two
abbrev pub is_pair : List ℕ → List ℕ → List ℕ → List ℕ → Bool
is_pair name descriptor n d = bytes_eq n name && bytes_eq d descriptor

-- whether a method of a name and descriptor can be selected
abbrev pub is_virtual_of : List ℕ → List ℕ → Method → Bool
is_virtual_of name descriptor m = is_pair name descriptor m.name m.descriptor && is_virtual m

abbrev pub row_if : RowOfNumbers → Bool → Option RowOfNumbers
row_if row b = cond b (Some row) None

-- the row of the first of these methods that can be selected for a name and descriptor, the methods being counted from
-- a number
abbrev pub first_row : ℕ → ℕ → List ℕ → List ℕ → List Method → Option RowOfNumbers
first_row class n name descriptor [] = None
first_row class n name descriptor (m ∷ ms) =
    or_else (row_if (record { class = class; method = n }) (is_virtual_of name descriptor m))
    (first_row class (suc n) name descriptor ms)

-- names are compared first, then descriptors
abbrev pub pair_cmp : List ℕ → List ℕ → List ℕ → List ℕ → Ordering
pair_cmp name descriptor n d = ordering_then (slice_cmp nat_cmp name n) (slice_cmp nat_cmp descriptor d)

-- the row that was gathered for a name and descriptor
abbrev pub gathered : ClassRows → List ℕ → List ℕ → Option RowOfNumbers
gathered rows name descriptor = lookup
    (is_at (λ (k : Bor (List ℕ) × Bor (List ℕ)). pair_cmp name descriptor k.0.now k.1.now)) rows.rows.entries

-- the names and descriptors of the rows rise
abbrev pub AreInOrder : ClassRows → Type 0
AreInOrder rows = IsOrdered (λ (k l : Bor (List ℕ) × Bor (List ℕ)). pair_cmp k.0.now k.1.now l.0.now l.1.now) rows.rows

-- rows with some more, for names and descriptors that had none
abbrev pub AddsRows : ClassRows → (List ℕ → List ℕ → Option RowOfNumbers) → ClassRows → Type 0
AddsRows old more new = (n d : List ℕ) → gathered new n d ≡ or_else (gathered old n d) (more n d)

-- the rows tell for each name and descriptor what is selected for objects of a class
abbrev pub TellSelected : List ClassListing → List ℕ → ClassRows → Type 0
TellSelected program class rows = (n d : List ℕ) → option_map (declared_at program) (gathered rows n d)
    ≡ option_map Some (selected program class n d)

-- ---- tables

-- rows of numbers that stand for the selection table of a class
pub record IsClassTable (program : List ClassListing) (class : List ℕ) (rows : List RowOfNumbers) : Type 0 where
  pub table : IsSelectionTable program class (map (row_of program) rows)
  pub placed : All (IsPlaced program) rows

-- the row of a name and descriptor
abbrev pub row_named : List ℕ → List ℕ → List SelectionRow → Option SelectionRow
row_named name descriptor rows = find (λ (r : SelectionRow). bytes_eq r.name name && bytes_eq r.descriptor descriptor)
    rows
