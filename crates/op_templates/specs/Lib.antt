pub mod Choices
pub mod Comparisons
pub mod Laws
pub mod Moves
pub mod Shifts
pub mod Sums
pub mod Templates
