pub mod CountLemmas
pub mod MoveLemmas
pub mod PassLemmas
pub mod PlaceLemmas
pub mod QuietLemmas
