pub mod CommandLemmas
pub mod Cuts
pub mod Kept
pub mod LineLemmas
pub mod Pieces
