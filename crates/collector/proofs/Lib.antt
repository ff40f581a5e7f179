pub mod Clearing
pub mod ListedLemmas
pub mod ListsNoted
pub mod MarksTell
