-- Events files and models, computed.
pub mod Models
