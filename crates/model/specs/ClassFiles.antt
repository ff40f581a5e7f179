-- Class files (JVMS 4): bytes, and what they spell.
pub mod Adding
pub mod Attributes
pub mod Classes
pub mod Codes
pub mod Entries
pub mod Fields
pub mod Heads
pub mod Items
pub mod Listing
pub mod Lists
pub mod Methods
pub mod Numbers
pub mod Pools
pub mod References
