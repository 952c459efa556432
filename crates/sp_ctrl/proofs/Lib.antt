mod Waiting
mod Causes
mod Worked
