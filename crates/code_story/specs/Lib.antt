pub mod Arranged
pub mod Code
pub mod Laws
pub mod Relation
