mod Moved
mod Begun
