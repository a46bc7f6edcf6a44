pub mod Expressions
pub mod RowJudges
pub mod RowsHeld
pub mod RowLaws
pub mod Limits
pub mod LimitLaws
pub mod ValueRows
pub mod ValueLaws
