pub mod SplitLemmas
pub mod PrefixLemmas
pub mod NewlineLemmas
pub mod LinesLemmas
pub mod RunLemmas
pub mod LimitLemmas
mod WindowLemmas
pub mod ResultLemmas
