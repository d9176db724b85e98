pub mod Classes
pub mod Gases
pub mod Responses
pub mod Shapes
pub mod Spellings
