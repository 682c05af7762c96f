pub mod laws
pub mod Moving
pub mod Unique
