pub mod Reports
pub mod Witnesses
