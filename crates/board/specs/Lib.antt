pub mod Marks
pub mod Rule
pub mod Seats
pub mod Gathering
