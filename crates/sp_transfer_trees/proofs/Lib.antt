mod Agreeing
mod Trees
