pub mod Worlds
pub mod Workers
pub mod Replaying
pub mod Differing
pub mod Rounds
pub mod Showing
pub mod OnCells
pub mod LosesNothing
