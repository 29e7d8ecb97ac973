pub mod FourPagesFacts
pub mod OperationFacts
