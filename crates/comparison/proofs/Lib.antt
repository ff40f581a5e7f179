pub mod Deciding
pub mod Alike
pub mod Shown
pub mod Followed
pub mod Compared
