pub mod DeedLaws
pub mod EffectLaws
pub mod EnableLaws
mod FrameFacts
mod NameFacts
mod WindowFacts
