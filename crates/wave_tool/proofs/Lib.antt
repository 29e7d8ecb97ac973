pub mod ToolFacts
