pub mod Booting
pub mod Laws
pub mod Taking
pub mod Urgency
pub mod Vector
