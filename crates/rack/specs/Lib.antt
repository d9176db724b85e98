pub mod Entries
pub mod Racks
