pub mod Body
pub mod Expressions
pub mod Names
pub mod Program
pub mod Pieces
pub mod Types
pub mod Words
