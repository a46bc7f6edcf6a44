pub mod Slots
pub mod Nets
pub use Rattle.net_parts.specs.Makings
