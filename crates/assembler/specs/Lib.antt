pub mod Answers
pub mod Assembled
pub mod Checks
pub mod Numbering
pub mod Numbers
