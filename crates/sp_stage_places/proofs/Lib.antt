mod Arranging
mod Filled
