pub mod Effects
pub mod Heard
pub mod Kept
pub mod Laws
pub mod Marks
pub mod Moves
pub mod Pieces
pub mod Places
