pub mod ChoiceFacts
pub mod ComparisonFacts
pub mod Examples
pub mod MoveFacts
pub mod ShiftFacts
pub mod SumFacts
pub mod TemplateFacts
pub mod TemplateLaws
