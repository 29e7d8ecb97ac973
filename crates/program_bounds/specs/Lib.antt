pub mod Bounded
pub mod Costing
pub mod Sized
pub mod Weighing
