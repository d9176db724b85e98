pub mod Bounds
pub mod Admission
pub mod Facts
