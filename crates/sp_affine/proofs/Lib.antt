pub mod Box
pub mod Checked
pub mod Factors
pub mod Integers
pub mod Lists
pub mod Values
