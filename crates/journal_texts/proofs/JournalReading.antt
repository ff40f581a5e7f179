-- A journal's text is read: what is printed is read back, and what is read was printed.
pub mod EndLine
pub mod Heads
pub mod NumberWords
pub mod Readers
pub mod Rows
pub mod Whole
