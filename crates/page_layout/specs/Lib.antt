pub mod Emitted
pub mod Faults
pub mod Marks
pub mod Words
