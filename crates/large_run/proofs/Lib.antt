pub mod ArriveFacts
pub mod CountFacts
pub mod ReactLaws
pub mod RunFacts
pub mod TallyFacts
pub mod WindowFacts
