pub mod Rows
pub mod CommandLine
pub use Rattle.clap.specs.Words
