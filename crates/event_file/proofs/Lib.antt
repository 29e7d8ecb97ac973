pub mod Examples
pub mod FieldFacts
pub mod SpaceFacts
pub mod LineFacts
pub mod ReadFacts
pub mod ModelFacts
