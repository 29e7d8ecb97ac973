pub mod Counts
pub mod Edge
pub mod Files
pub mod Memory
pub mod Sinks
