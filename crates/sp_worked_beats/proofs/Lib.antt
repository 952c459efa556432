mod Finishing
mod Standing
