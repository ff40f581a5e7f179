-- Reading the parts of a class file from left to right, with the first fault that is met.
pub mod Answers
pub mod Attributes
pub mod Fields
pub mod Lists
pub mod Heads
pub mod Instructions
pub mod Codes
pub mod Methods
pub mod Classes
