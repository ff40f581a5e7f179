-- Which lists of listings are programs: a file for each rule, and the rules in their order.
pub mod BuiltinNames
pub mod Cycles
pub mod ExceptionRows
pub mod LimitsOfClasses
pub mod MembersTwice
pub mod Refusals
pub mod RefusedMembers
pub mod Superclasses
pub mod References
