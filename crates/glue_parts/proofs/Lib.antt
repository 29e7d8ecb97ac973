pub mod FrameLaws
mod HeardFacts
pub mod MakeLaws
pub mod PieceLaws
