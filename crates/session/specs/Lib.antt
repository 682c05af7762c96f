pub mod Transaction
pub mod Search
pub mod Calls
pub mod Payloads
pub mod Returned
pub mod Answered
pub mod Needs
pub mod Fills
