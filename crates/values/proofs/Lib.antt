pub mod WrapLemmas
pub mod WordLemmas
pub mod KeyLemmas
