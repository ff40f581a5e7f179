pub mod Births
pub mod FreeLists
pub mod Sound
