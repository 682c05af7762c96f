pub mod laws
pub mod Example
