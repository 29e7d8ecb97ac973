pub mod Bytes
pub mod Cuts
pub mod Digits
pub mod Fields
pub mod Names
pub mod Numbers
