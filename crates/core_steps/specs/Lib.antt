pub mod Laws
pub mod LogSteps
pub mod Scheduled
pub mod Tied
