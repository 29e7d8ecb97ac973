pub mod Interface
pub mod Laws
pub mod Story
pub mod Values
