-- First cycles of programs, computed.
pub mod Cycles
