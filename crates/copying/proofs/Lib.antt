pub mod laws
pub mod Looking
pub mod Reporting
pub mod Runs
pub mod Unique
pub mod Example
