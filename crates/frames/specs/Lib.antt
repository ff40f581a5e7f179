pub mod Activations
pub mod CodeFacts
pub mod CodeFrames
pub mod Heads
pub mod Layout
pub mod Registers
pub mod Reported
pub mod Windows
