pub mod HeardLaws
pub mod ListLaws
pub mod ReadyLaws
pub mod SampleLaws
