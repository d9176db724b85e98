pub mod Gases
pub mod Responses
