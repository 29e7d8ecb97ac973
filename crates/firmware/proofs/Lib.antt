mod BuiltFacts
pub mod KindFacts
mod LookFacts
mod MadeFacts
mod MapFacts
mod WorkFacts
