mod CountFacts
mod EnableFacts
pub mod LevelLaws
