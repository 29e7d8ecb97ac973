pub mod Laws
pub mod Moves
pub mod States
pub mod Works
