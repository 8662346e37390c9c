pub mod FileLemmas
mod OutputLemmas
pub mod FallingLemmas
mod RankingLemmas
pub mod ListedLemmas
mod FractionLemmas
pub mod LaidLemmas
pub mod TerminalLemmas
pub mod TextLemmas
pub mod EscapeLemmas
pub mod BareLemmas
mod CellLemmas
mod ShownLemmas
mod WidthLemmas
mod GraphLineLemmas
mod LastByteLemmas
mod StepLemmas
pub mod WritingLemmas
pub mod GraphLemmas
mod GraphTextLemmas
pub mod OrderLemmas
