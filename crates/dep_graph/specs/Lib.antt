pub mod Ways
pub mod Counting
pub mod Reaching
pub mod Distances
pub mod Triple
pub mod Edges
pub mod Danger
