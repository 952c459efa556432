mod Below
mod ByParts
mod Schemes
