mod CodeFacts
pub mod FirmwareLaws
mod LastFacts
mod MapFacts
mod NameFacts
mod WordFacts
