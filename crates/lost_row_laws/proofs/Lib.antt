pub mod SieveLemmas
pub mod SameLemmas
pub mod CalmLemmas
pub mod RestoreLemmas
pub mod ArrivalLemmas
pub mod DomainLemmas
pub mod WireLemmas
pub mod ExtendLemmas
pub mod FaultLemmas
pub mod FailedLemmas
mod WorkedLoss
