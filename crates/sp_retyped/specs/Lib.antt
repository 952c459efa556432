pub mod Bare
pub mod Shown
pub mod Laws
pub mod BareMems
pub mod BareBody
