mod CodeFacts
pub mod EnableLaws
pub mod EventLaws
mod HeadFacts
pub mod HeardLaws
pub mod LevelLaws
pub mod MadeLaws
mod PieceFacts
pub mod PlaceLaws
pub mod RangeLaws
mod RunFacts
pub mod StandLaws
pub mod StateLaws
mod WriteFacts
pub mod WriteLaws
