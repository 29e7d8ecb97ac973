-- Files, images and refusals, computed.
pub mod Faults
pub mod Images
pub mod Mixed
pub mod Written
