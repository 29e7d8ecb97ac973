pub mod Reactions
pub mod Stands
pub mod States
pub mod Values
