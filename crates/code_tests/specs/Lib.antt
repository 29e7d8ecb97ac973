pub mod FourPages
pub mod Operations
