pub mod Requests
pub mod Elements
pub mod Laws
