pub mod EvalLemmas
pub mod TruthLemmas
pub mod TypingLemmas
pub mod PageLemmas
mod ColumnLemmas
pub mod FitLemmas
pub mod ShownLemmas
pub mod CalmLemmas
