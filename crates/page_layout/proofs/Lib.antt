pub mod DropFacts
pub mod Examples
pub mod MarkFacts
pub mod PlaceFacts
pub mod WholeFacts
