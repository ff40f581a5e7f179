pub mod Back
pub mod Marks
pub mod Rereading
pub mod Sayable
pub mod Statements
