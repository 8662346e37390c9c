pub mod ReadsAtLemmas
pub mod ImageLemmas
mod MemFolderLemmas
