pub mod LimitLemmas
pub mod PcLemmas
pub mod RepeatLemmas
