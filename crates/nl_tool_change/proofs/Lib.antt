mod WordLemmas
mod ScriptLemmas
mod ReadingLemmas
mod ReplayLemmas
pub mod FileLemmas
pub mod ChangeLemmas
mod KeepLemmas
mod TimesLemmas
mod ManifestLemmas
mod DamageLawLemmas
mod ReadLemmas
mod RepairLemmas
mod KeepAllLemmas
mod SeenLemmas
mod MendLemmas
mod SeenLogLemmas
mod BeginLemmas
mod AnswerLemmas
mod ApplyLemmas
mod BegunLemmas
mod DeedLemmas
