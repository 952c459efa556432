pub mod Counted
pub mod Leaving
pub mod Promising
pub mod Standing
