pub mod Acting
mod Bounding
pub mod Kept
mod Spanning
mod Standing
mod Walking
mod Worked
