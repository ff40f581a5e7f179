pub mod LayoutLemmas
pub mod WordLemmas
pub mod CellLemmas
