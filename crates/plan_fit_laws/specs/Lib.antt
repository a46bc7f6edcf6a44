pub mod Tables
pub mod Reads
pub use Rattle.plan_link_laws.specs.Consistent
