pub mod Beginnings
pub mod Copies
pub mod Mails
pub mod Memories
pub mod Reached
