pub mod Examples
pub mod ItemLaws
pub mod JumpLaws
pub mod LineLaws
pub mod PieceLaws
pub mod StandLaws
