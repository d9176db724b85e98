pub mod Basics
pub mod Small
pub mod Examples
