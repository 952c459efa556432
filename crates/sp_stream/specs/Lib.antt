pub mod Circles
pub mod ExampleStreams
pub mod Laws
pub mod Parts
pub mod Proper
pub mod Search
