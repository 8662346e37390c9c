pub mod SpanLemmas
pub mod OrderLemmas
pub mod LineLemmas
pub mod LawLemmas
pub mod TableLemmas
pub mod SettleLemmas
mod KeptLemmas
mod MendLemmas
