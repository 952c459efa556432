pub mod Banks
pub mod Laws
pub mod Whole
