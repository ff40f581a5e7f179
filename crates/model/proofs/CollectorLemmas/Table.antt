-- Every case of the instruction table moves only what it writes: a file for each family, as the table has.
pub mod Arrays
pub mod Branches
pub mod Builtins
pub mod Constants
pub mod Fields
pub mod Initialisation
mod Invokes
pub mod Locals
pub mod Monitors
pub mod Next
pub mod Numbers
pub mod Objects
pub mod Returns
pub mod Stacks
pub mod Statics
pub mod Switches
pub mod Threads
pub mod Throws
