pub mod BetweenLaws
pub mod ComesLaws
pub mod Examples
pub mod JumpLaws
pub mod OwnLaws
