pub mod EndingLaws
pub mod ToldLaws
