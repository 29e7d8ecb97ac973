-- The faults of programs, computed.
pub mod Faults
