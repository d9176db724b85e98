pub mod Patches
pub mod Spelling
