pub mod CutLemmas
pub mod FaultLemmas
pub mod PlaceLemmas
pub mod JoinLemmas
pub mod PrintLemmas
