pub mod Census
pub mod Marks
pub mod Windows
pub mod Conditions
pub mod Limits
