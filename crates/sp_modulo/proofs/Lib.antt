pub mod Ends
pub mod Fitting
pub mod Intervals
pub mod Later
pub mod Ranks
pub mod Rising
