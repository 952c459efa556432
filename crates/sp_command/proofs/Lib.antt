mod Parsing
mod Finding
