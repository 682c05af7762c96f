pub mod Held
pub mod Turn
pub mod Run
pub mod Fair
