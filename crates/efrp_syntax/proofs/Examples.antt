-- Texts and their tokens, computed; and what may follow an expression.
pub mod Expressions
pub mod Tokens
