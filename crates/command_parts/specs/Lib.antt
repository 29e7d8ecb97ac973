pub mod Endings
pub mod Lines
pub mod Outsides
pub mod Reads
pub mod Refusals
