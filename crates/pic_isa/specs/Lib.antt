pub mod Instructions
pub mod Names
pub mod Sources
