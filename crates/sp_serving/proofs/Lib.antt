mod ApartTests
mod BodyTests
mod Counting
mod TreeTests
