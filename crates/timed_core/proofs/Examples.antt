-- The first steps of a tale, and which bounds are quick, computed.
pub mod Tales
