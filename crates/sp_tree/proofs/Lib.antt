pub mod Closure
pub mod Everything
pub mod Footprints
pub mod Timed
pub mod Turns
pub mod Witnesses
