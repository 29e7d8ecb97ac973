-- Instruction words, computed.
pub mod Words
