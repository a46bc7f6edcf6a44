pub mod AppendLemmas
pub mod WritingLemmas
pub mod ToldLemmas
pub mod TableLemmas
pub mod CompletenessLemmas
pub mod TypeLemmas
pub mod WordLemmas
pub mod PassedLemmas
