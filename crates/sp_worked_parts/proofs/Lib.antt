pub mod Closing
pub mod Fitting
pub mod Waiting
pub mod Lining
pub mod Doubling
pub mod Storing
pub mod Transfers
