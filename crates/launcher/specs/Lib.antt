pub mod Launching
pub mod Replaying
