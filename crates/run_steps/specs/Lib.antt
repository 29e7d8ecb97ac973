pub mod Deeds
pub mod Laws
pub mod Premises
pub mod Saved
pub mod Spots
