-- Instructions, boundaries, late interrupts, pins and runs, computed.
pub mod Arithmetic
pub mod Boundaries
pub mod Control
pub mod HalfKnown
pub mod Late
pub mod Pins
pub mod Registers
pub mod Runs
