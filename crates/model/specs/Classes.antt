-- Classes by name, the machine's own among them, and how they lie above one another (JVMS 5.3, 5.4.3).
pub mod Builtin
pub mod Exceptions
pub mod Flags
pub mod Layout
pub mod MethodPlaces
pub mod Named
pub mod Resolution
pub mod Search
pub mod Selection
pub mod SelectionTable
pub mod Special
pub mod Subclass
pub mod Subclasses
pub mod Types
