pub mod CutLaws
pub mod DigitLaws
pub mod NameLaws
pub mod NumberLaws
pub mod WrittenFacts
