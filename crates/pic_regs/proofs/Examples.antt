-- The register map and registers, computed.
pub mod Map
pub mod Registers
