pub mod Laws
pub mod Named
pub mod Operations
pub mod Templates
