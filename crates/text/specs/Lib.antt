pub mod Number
pub mod Lines
