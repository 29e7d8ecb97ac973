pub mod Layout
pub mod Contexts
pub mod Runs
pub mod Times
pub mod Vector
pub mod Work
