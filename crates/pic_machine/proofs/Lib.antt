pub mod ByteArithmeticFacts
pub mod Examples
pub mod LoadFacts
pub mod SettingFacts
pub mod StateFacts
pub mod TurnLaws
