pub mod Trees
pub mod Filters
pub mod Reaches
pub mod Judgement
