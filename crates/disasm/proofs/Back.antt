-- The tree of a listing's text has the listing, and is what the listing's statements say.
pub mod Blocks
pub mod Bodies
pub mod Classes
pub mod Fields
pub mod Flags
pub mod Instructions
pub mod Listings
pub mod Lists
pub mod Methods
pub mod Mnemonics
pub mod Numbers
pub mod Pcs
pub mod Switches
pub mod Uses
pub mod Widths
pub mod Words
