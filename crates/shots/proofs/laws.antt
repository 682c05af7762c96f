-- The laws of this crate that a crate above it may cite, beside its specs: its interface to proofs.
-- Assumes nothing.
pub mod Unique
