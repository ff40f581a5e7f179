-- Reading from left to right, with the first fault that is met.
pub mod Steps
pub mod Entries
pub mod Pools
