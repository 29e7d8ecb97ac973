pub mod Lowered
pub mod Nodes
pub mod Numbered
pub mod Places
pub mod Running
