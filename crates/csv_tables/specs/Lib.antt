pub mod Places
pub mod Fields
pub mod Records
pub mod Lines
pub mod Tables
pub mod ResultTexts
pub mod Parts
pub mod PageColumns
