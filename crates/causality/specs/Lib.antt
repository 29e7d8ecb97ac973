pub mod Answers
pub mod Graphs
pub mod Laws
pub mod Orders
pub mod Waits
