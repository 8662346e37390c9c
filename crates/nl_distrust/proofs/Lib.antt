mod FieldLemmas
mod WalkLemmas
mod StepLemmas
mod PlainLemmas
mod TrustLemmas
mod FoundLemmas
pub mod WholeLemmas
