pub mod Numbers
pub mod Laws
pub mod Lawful
pub mod Patches
