pub mod Expressions
pub mod Laws
pub mod Loops
pub mod Statements
pub mod Tokens
