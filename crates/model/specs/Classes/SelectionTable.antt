use Rattle.std.specs.Prelude.{◌≡◌, ℕ, List, Some}
use Rattle.std.specs.Cmp.Lexicographic.{slice_cmp}
use Rattle.std.specs.List.{All, Contains}
use Rattle.std.specs.List.Sorted.{IsStrictlySortedBy}
use Rattle.std.specs.Ordering.{nat_cmp, ordering_then}
use Rattle.std.specs.declared.cmp.Ordering.{Ordering}
use Rattle.model.specs.declared.listings.Method.{Method}
use Rattle.model.specs.ClassListings.{ClassListing}
use Rattle.model.specs.Classes.Search.{Declared}
use Rattle.model.specs.Classes.Selection.{selected}

-- a name and a descriptor, and the method that is selected for them
pub record SelectionRow : Type 0 where
  pub name : List ℕ
  pub descriptor : List ℕ
  pub method : Declared Method

-- rows are compared by the bytes of their names, then by those of their descriptors
abbrev pub compared : SelectionRow → SelectionRow → Ordering
compared r s = ordering_then (slice_cmp nat_cmp r.name s.name) (slice_cmp nat_cmp r.descriptor s.descriptor)

abbrev pub IsSelected : List ClassListing → List ℕ → SelectionRow → Type 0
IsSelected program class row = selected program class row.name row.descriptor ≡ Some row.method

-- the selection table of a class: the rows rise, each gives the method that is selected for objects of the class (JVMS
-- 6.5, invokevirtual), and each selected method has its row
pub record IsSelectionTable (program : List ClassListing) (class : List ℕ) (rows : List SelectionRow) : Type 0 where
  pub rising : IsStrictlySortedBy compared rows
  pub given : All (IsSelected program class) rows
  pub whole : (row : SelectionRow) → IsSelected program class row → Contains rows row
