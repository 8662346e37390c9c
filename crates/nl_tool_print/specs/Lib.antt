pub mod Output
pub mod Streams
pub mod StreamSteps
pub mod Versions
pub mod Faults
