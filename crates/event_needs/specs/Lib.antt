pub mod Marking
pub mod Needed
