-- Scripts and traces, computed.
pub mod Scripts
pub mod Traces
