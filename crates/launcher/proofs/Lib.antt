pub mod SourceLemmas
pub mod WellNamedSources
