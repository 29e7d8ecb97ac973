pub mod Drafts
pub mod Entries
pub mod FieldWords
pub mod MapFaults
pub mod MapRules
pub mod MapText
