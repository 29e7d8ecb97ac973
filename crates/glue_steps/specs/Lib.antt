pub mod Choices
pub mod Jumping
pub mod Laws
pub mod Lines
pub mod Still
pub mod Stretches
pub mod Tells
