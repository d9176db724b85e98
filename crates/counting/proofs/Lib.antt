pub mod Tests
pub mod Census
pub mod Marks
pub mod Growth
pub mod Conditions
pub mod Limits
pub mod Quiet
