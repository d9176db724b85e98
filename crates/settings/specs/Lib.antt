pub mod Ranges
pub mod Conditions
pub mod Faults
pub mod Admission
pub mod Shipped
pub mod Bench
