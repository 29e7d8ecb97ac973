-- Grammar, limits, literals, priorities and marks, computed.
pub mod Grammar
pub mod Limits
pub mod Literals
pub mod Marks
pub mod Printed
pub mod Priorities
