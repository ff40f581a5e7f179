pub mod Dealt
pub mod ManyRounds
pub mod Pairs
pub mod Rows
pub mod SeatsHome
