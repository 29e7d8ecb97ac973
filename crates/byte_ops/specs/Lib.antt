pub mod Cells
pub mod Kinds
pub mod Meaning
pub mod Weights
