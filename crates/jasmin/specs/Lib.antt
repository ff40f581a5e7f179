pub mod Bodies
pub mod Classes
pub mod Locals
pub mod Statements
pub mod Switches
pub mod Words
