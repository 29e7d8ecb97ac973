pub mod BankLaws
mod CodeFacts
mod NameFacts
pub mod OrderLaws
mod PlaceFacts
mod StatusFacts
