pub mod Names
pub mod Says
