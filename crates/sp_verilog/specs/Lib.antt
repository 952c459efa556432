pub mod Computed
pub mod Pieces
pub mod Text
