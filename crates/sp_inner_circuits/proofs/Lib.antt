mod Grouping
mod Issuing
mod Single
