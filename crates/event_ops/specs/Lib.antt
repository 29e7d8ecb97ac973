pub mod Drafts
pub mod Looks
pub mod Works
