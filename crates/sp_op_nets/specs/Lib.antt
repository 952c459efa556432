pub mod Acted
pub mod Example
pub mod Laws
pub mod Nets
pub mod Reserved
pub mod Table
