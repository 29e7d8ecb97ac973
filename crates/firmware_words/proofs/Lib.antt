mod DeedFacts
mod ItemFacts
mod LineFacts
mod MarkFacts
mod OrderFacts
mod RunFacts
mod VectorFacts
pub mod WordLaws
