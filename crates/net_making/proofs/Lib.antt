pub mod SlotLemmas
pub mod NetLemmas
pub mod LaneLemmas
pub mod DriverLemmas
