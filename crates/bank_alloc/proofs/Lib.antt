pub mod AddressLaws
pub mod Examples
