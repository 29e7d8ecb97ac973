pub mod CheckedLaws
pub mod FilterFacts
pub mod ListLaws
pub mod MarkFacts
pub mod NeededLaws
pub mod NumberLaws
pub mod ReachFacts
pub mod SumLaws
