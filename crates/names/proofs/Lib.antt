pub mod laws
pub mod Tables
pub mod Unique
pub mod Coded
