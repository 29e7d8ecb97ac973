mod BootPutFacts
mod BootedFacts
pub mod BootingLaws
mod PlacedFacts
mod SetUpFacts
mod StandingFacts
mod TakesFacts
pub mod TakingLaws
pub mod VectorLaws
