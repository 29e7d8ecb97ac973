pub mod TimesLaws
pub mod WholeLaws
