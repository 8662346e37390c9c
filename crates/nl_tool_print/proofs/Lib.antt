pub mod OutputLemmas
pub mod VersionLemmas
mod DamageLemmas
mod EntryLemmas
mod StreamLemmas
mod AnyVersionLemmas
mod HashLemmas
