-- Events by their numbers, values by labels, and what is counted of the core, computed.
pub mod Sides
