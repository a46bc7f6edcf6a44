mod LaterLemmas
mod TurnLemmas
mod EndLemmas
mod WaitLemmas
mod PassedLemmas
pub use Rattle.plan_fit_laws.proofs.ConsistentLemmas
