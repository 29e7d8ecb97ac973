pub mod ChainFacts
pub mod Examples
pub mod LinkedFacts
pub mod RowFacts
