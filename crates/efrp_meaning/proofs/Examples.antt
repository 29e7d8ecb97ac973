-- Programs, and what they mean and cost, computed.
pub mod Bounds
pub mod Causality
pub mod Fits
pub mod LargeBounds
pub mod Needed
pub mod Operators
pub mod Programs
pub mod Reactions
pub mod Samples
pub mod Tables
pub mod Weights
