pub mod Deeds
pub mod Effects
pub mod Enables
pub mod Frames
pub mod Laws
pub mod Masks
pub mod Plans
pub mod Windows
