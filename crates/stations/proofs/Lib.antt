pub mod Digits
pub mod Counting
pub mod Words
pub mod Sets
pub mod Removing
