pub mod Linear
pub mod Turns
pub mod Bodies
pub mod Inners
pub mod Whole
pub mod Numbers
