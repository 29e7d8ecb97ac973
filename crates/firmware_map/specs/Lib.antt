pub mod Laws
pub mod Maps
pub mod Ranges
pub mod Written
