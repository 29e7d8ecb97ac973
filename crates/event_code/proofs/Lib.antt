mod CodeFacts
mod Examples
mod MoveFacts
pub mod MoveLaws
mod OrderFacts
pub mod StateLaws
pub mod WorkLaws
