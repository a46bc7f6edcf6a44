pub mod LosingPipes
pub mod FilterLanes
pub mod KnownDomains
pub mod ComingDown
pub use Rattle.lost_row_laws.specs.Arrivals
pub use Rattle.lost_row_laws.specs.Domains
pub use Rattle.lost_row_laws.specs.Sieves
