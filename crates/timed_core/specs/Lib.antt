pub mod Counts
pub mod Promises
pub mod Response
pub mod Settling
pub mod Shape
pub mod Steps
pub mod Tale
pub mod Timing
