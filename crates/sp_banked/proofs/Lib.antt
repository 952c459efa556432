pub mod Reading
pub mod Sizes
pub mod Shapes
pub mod Asked
pub mod Whole
pub mod Arrays
pub mod Worked
