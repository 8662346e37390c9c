mod CountLemmas
mod NumberLemmas
mod EndingLemmas
mod ReportLemmas
mod AnswerLemmas
