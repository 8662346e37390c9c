pub mod Recorded
pub mod Moments
pub mod Commands
pub mod Sorted
pub mod Seen
pub mod Builds
pub mod Laws
