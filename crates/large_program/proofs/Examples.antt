-- Draws, definitions and arrivals of single numbers, computed.
pub mod Draws
