pub mod BodyLemmas
pub mod CatchLemmas
pub mod DeclarationLemmas
pub mod LabelLemmas
pub mod MethodLemmas
pub mod NumberLemmas
pub mod SignatureLemmas
pub mod Spelled
