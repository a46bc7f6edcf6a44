pub mod Alike
pub mod Held
pub mod Tables
pub mod Giving
pub mod GivingLaws
pub mod Layouts
pub mod Finals
