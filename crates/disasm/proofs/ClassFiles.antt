-- A class file's listing is one that a text spells, but for what no text can say, and it assembles.
pub mod Codes
pub mod Exactly
pub mod Items
pub mod Listings
pub mod Members
pub mod Numbers
pub mod Operands
pub mod Pools
pub mod Programs
