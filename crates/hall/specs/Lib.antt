pub mod Roles
pub mod Shares
pub mod Heads
pub mod Homes
