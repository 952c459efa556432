mod Adding
mod Picked
mod Telling
mod Working
