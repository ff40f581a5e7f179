pub mod Groups
pub mod Plain
pub mod PlainMoves
pub mod Reported
pub mod LongUnits
pub mod RegisterMoves
