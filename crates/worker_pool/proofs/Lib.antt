pub mod AdmitLemmas
pub mod GatherLemmas
pub mod RecallLemmas
