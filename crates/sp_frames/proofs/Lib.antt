mod Adding
mod DramCells
mod Framing
mod Naming
mod Stores
mod Working
