pub mod Joined
pub mod Naming
pub mod OnCells
pub mod ReadBack
pub mod Runs
pub mod TurnsOnCells
