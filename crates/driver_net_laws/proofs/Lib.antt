pub mod MadeLemmas
pub use Rattle.pipe_laws.proofs.FitLemmas
