pub mod Faults
pub mod Memory
pub mod Waits
pub mod Counts
pub mod Laws
pub mod Owing
