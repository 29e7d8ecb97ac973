pub mod Codes
pub mod Heard
pub mod Laws
pub mod Layouts
pub mod Made
pub mod Pieces
pub mod Sound
