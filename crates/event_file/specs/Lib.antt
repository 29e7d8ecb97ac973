pub mod Events
pub mod Model
pub mod Parts
pub mod Reads
pub mod Written
