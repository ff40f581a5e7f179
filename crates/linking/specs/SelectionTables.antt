use Rattle.std.specs.Prelude.{◌≡◌, ℕ, List, [], ◌∷◌, length, map, slice_get, Option, Some}
use Rattle.std.specs.Option.{option_map}
use Rattle.model.specs.ClassListings.{ClassListing}
use Rattle.model.specs.Classes.Selection.{selected}
use Rattle.model.specs.Classes.SelectionTable.{SelectionRow, IsSelectionTable}
use Rattle.resolve.specs.Numbers.{all_classes}
use Rattle.linking.specs.declared.selection.ClassTable.{ClassTable}
use Rattle.linking.specs.declared.selection.Selection.{Selection}
use Rattle.linking.specs.declared.selection_rows.SelectionRow.{SelectionRow as RowOfNumbers}
use Rattle.linking.specs.Selections.{declared_at, IsClassTable, row_named, row_of}
use Rattle.linking.specs.Selectors.{Signature, selectors, selector_of}

-- rows by selector: each tells the method that is selected, and is missing where none is
abbrev pub AreBySelector : List ClassListing → List ℕ → List (Option RowOfNumbers) → List Signature → Type 0
AreBySelector program class rows signatures =
    map (option_map (declared_at program)) rows
    ≡ map (λ (s : Signature). option_map Some (selected program class s.0 s.1)) signatures

-- the table of a class, and its rows by selector
pub record IsTableOf (program : List ClassListing) (class : List ℕ) (t : ClassTable) : Type 0 where
  pub rows_are : IsClassTable program class t.rows.items
  pub by_selector_are : AreBySelector program class t.by_selector.items (selectors program)

-- the tables of some classes, in order
abbrev pub AreTables : List ClassListing → List ClassTable → List ClassListing → Type 0
AreTables program [] [] = Unit {0}
AreTables program [] (c ∷ cs) = ⊥
AreTables program (t ∷ ts) [] = ⊥
AreTables program (t ∷ ts) (c ∷ cs) = IsTableOf program c.name t × AreTables program ts cs

-- the tables of all classes of a program, the machine's own among them
abbrev pub IsSelection : List ClassListing → Selection → Type 0
IsSelection program selection = AreTables program selection.tables.items (all_classes program)

-- how many classes have a table
abbrev pub table_count : Selection → ℕ
table_count selection = length selection.tables.items

-- what stands under the number of a class is its selection table
abbrev pub IsTableAt : List ClassListing → ℕ → List RowOfNumbers → Type 0
IsTableAt program class rows = (c : ClassListing) → slice_get (all_classes program) class ≡ Some c
    → IsClassTable program c.name rows

-- the row of a name and descriptor in the selection table of a class: it tells the method that is selected, and there
-- is none where none is selected
pub record IsSelectedRow (program : List ClassListing) (class name descriptor : List ℕ)
    (row : Option RowOfNumbers) : Type 0 where
  pub reported : option_map (declared_at program) row ≡ option_map Some (selected program class name descriptor)
  pub lent : (rows : List SelectionRow) → IsSelectionTable program class rows → option_map (row_of program) row
      ≡ row_named name descriptor rows

-- what stands under the number of a class and a selector is that row
abbrev pub IsRowAt : List ClassListing → ℕ → ℕ → Option RowOfNumbers → Type 0
IsRowAt program class selector row =
    (c : ClassListing) (name descriptor : List ℕ) → slice_get (all_classes program) class ≡ Some c
    → selector_of program name descriptor ≡ Some selector → IsSelectedRow program c.name name descriptor row
