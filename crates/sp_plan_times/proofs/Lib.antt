mod Leaving
mod Trees
