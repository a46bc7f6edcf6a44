pub mod DigitLemmas
pub mod DayLemmas
pub mod LengthLemmas
pub mod CallLemmas
pub mod CastLemmas
pub mod ValueLemmas
pub mod FormLemmas
pub mod NullLemmas
