mod BootFacts
pub mod BootCountLaws
pub mod BootLaws
pub mod LineLaws
pub mod ListLaws
pub mod StateLaws
pub mod TestLaws
mod UrgencyFacts
pub mod UrgencyLaws
