pub mod Objects
pub mod Layout
