pub mod Filling
pub mod Promising
pub mod Tables
