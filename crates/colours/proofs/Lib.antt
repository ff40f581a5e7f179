pub mod Counting
pub mod Keeping
pub mod Numbers
pub mod Steps
