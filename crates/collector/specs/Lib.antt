pub mod Freed
pub mod ListedWorlds
pub mod Reaching
