pub mod DrawFacts
pub mod SignalFacts
pub mod TextFacts
