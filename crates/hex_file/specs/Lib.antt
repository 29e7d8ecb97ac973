pub mod Faults
pub mod ImageOf
pub mod Kinds
pub mod Tables
pub mod Words
pub mod Written
