mod Carrying
mod Inner
mod Lists
mod Lowering
