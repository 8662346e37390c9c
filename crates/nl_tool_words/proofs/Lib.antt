pub mod ValueLemmas
pub mod FullLemmas
pub mod RequiredLemmas
pub mod HelpLemmas
pub mod DefinitionLemmas
pub mod AskedLemmas
