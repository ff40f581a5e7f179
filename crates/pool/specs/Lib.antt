pub mod Checks
pub mod Kinds
pub mod Making
pub mod Numbering
pub mod Reading
pub mod Slots
