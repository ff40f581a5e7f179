pub mod LineLemmas
pub mod Places
pub mod WordLemmas
