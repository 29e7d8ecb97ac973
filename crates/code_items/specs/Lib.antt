pub mod Items
pub mod Jumping
pub mod Laws
pub mod Lines
pub mod Places
