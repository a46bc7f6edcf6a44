pub mod BehindLemmas
pub mod BesideLemmas
