mod Held
mod Numbers
mod Ported
mod Standing
