mod Apart
mod Loops
mod Parts
mod Rows
