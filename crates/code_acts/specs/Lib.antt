pub mod Acts
pub mod Codes
pub mod Laws
pub mod Standing
