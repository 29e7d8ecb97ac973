-- Maps, their texts and refusals, computed.
pub mod Faults
pub mod Rules
pub mod Texts
