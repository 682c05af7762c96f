pub mod Refusals
pub mod Deleted
pub mod Collected
pub mod Added
pub mod Linked
pub mod Facts
