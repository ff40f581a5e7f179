pub mod Merging
pub mod Together
