pub mod Checking
pub mod Compared
