pub mod RunFaults
pub mod RunLines
