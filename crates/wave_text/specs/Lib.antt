pub mod Drawing
pub mod Signals
pub mod Waves
