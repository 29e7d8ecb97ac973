pub mod Arrivals
pub mod Draws
pub mod LargePrograms
pub mod Laws
