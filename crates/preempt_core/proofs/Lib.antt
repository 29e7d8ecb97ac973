pub mod Examples
pub mod GoesFacts
pub mod MarkLaws
pub mod ReplayFacts
pub mod SerialLaws
pub mod StandingFacts
