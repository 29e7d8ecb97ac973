pub mod DecodeFacts
pub mod Examples
pub mod NameLaws
pub mod RowLaws
pub mod SourceLaws
pub mod UniqueNameLaws
pub mod WordLaws
