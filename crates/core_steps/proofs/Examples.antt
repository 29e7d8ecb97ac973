-- A choice between two events, read as steps of the core of lists, computed.
pub mod Readings
