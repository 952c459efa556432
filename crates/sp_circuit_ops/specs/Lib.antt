pub mod Circuit
pub mod Fitting
pub mod Nets
