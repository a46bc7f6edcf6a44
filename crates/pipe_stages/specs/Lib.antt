pub mod Tables
pub mod Each
pub mod Cells
pub use Rattle.driver_net_laws.specs.Makes
pub use Rattle.driver_net_laws.specs.Nets
pub use Rattle.driver_net_laws.specs.Types
