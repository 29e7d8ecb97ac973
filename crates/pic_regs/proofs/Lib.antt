pub mod ArrivalLaws
pub mod BitLaws
pub mod ByteLaws
pub mod Examples
pub mod MemoryFacts
pub mod PowerFacts
pub mod SetFacts
pub mod SetupRegisterLaws
