pub mod Refusals
pub mod Packet
pub mod PacketSays
pub mod Transaction
pub mod Translated
pub mod TransactionSays
pub mod Inner
