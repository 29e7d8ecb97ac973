-- Calls and an array, computed.
pub mod Moves
