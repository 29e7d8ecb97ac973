pub mod Builds
pub mod Kinds
pub mod Making
