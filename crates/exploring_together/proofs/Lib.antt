pub mod Deciding
pub mod MergingLemmas
pub mod TogetherLemmas
