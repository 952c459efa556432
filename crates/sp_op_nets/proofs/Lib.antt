pub mod Answering
pub mod Driving
pub mod Giving
pub mod Joining
pub mod Making
pub mod Reserving
