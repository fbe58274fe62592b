pub mod Reach
pub mod Bounds
pub mod Exact
pub mod Chains
pub mod WordRows
pub mod Closing
pub mod Places
pub mod Sampling
pub mod Choices
pub mod Shortest
pub mod Levels
mod Vectors
