pub mod Pooled
pub mod Meaning
pub mod Bounds
