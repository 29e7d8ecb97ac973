pub mod Answers
pub mod Laws
pub mod NameFaults
pub mod Numbers
pub mod Passes
pub mod Ready
pub mod Reasons
pub mod TypeFaults
