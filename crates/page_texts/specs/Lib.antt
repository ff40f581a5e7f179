pub mod Requests
pub mod Settings
pub mod Shown
