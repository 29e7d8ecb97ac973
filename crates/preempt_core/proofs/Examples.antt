-- Lists of steps, computed.
pub mod Lists
