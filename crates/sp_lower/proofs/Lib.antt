pub mod LoadsFitting
pub mod LoadsWriting
pub mod LoadsRunning
pub mod LoadsAdding
pub mod LoadsTaking
pub mod LoadsHaving
pub mod LoadsSlices
pub mod StoresFitting
pub mod StoresReserving
pub mod StoresReading
pub mod StoresRunning
pub mod StoresAdding
pub mod StoresLater
pub mod StoresKnowing
pub mod StoresNodes
pub mod StoresHaving
pub mod StoresWires
pub mod StoresBothWays
pub mod TreesEmitting
mod Drams
mod KeptSizes
mod Lowering
