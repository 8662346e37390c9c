pub mod Source
pub mod Prefix
pub mod Split
pub mod Lines
pub mod Runs
pub mod Window
