pub mod Errors
pub mod Repeats
pub mod Reported
