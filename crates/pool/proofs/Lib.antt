pub mod BuilderLemmas
pub mod EntryLemmas
pub mod EqualEntries
pub mod FieldLemmas
pub mod PoolLemmas
pub mod SlotLoops
pub mod Steps
