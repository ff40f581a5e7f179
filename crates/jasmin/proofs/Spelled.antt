-- Each listing of a text is spelled.
pub mod Bodies
pub mod Classes
pub mod Codes
pub mod Fields
pub mod Flags
pub mod Instructions
pub mod Labels
pub mod Methods
pub mod Operands
pub mod Partial
pub mod Switches
pub mod Widths
