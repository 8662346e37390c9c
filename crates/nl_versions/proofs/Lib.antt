pub mod VersionLemmas
pub mod VersionFolderLemmas
pub mod VersionLogLemmas
pub mod LogAsLemmas
pub mod VersionOfLemmas
pub mod NamedLemmas
mod BeginningLemmas
mod EntriesLemmas
mod MarkLemmas
