mod CutLemmas
mod AgainLemmas
mod RowLemmas
mod WalkLemmas
mod FallingLemmas
mod RecordedLemmas
mod LawLemmas
mod HiddenLemmas
