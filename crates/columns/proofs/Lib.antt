pub mod PieceLemmas
pub mod PresentLemmas
pub mod TextLemmas
