pub mod Layouts
pub mod Accesses
pub mod Acting
pub mod Laws
pub mod Buffers
pub mod Numbers
pub mod Examples
