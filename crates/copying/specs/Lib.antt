pub mod Report
pub mod Turn
pub mod Copy
