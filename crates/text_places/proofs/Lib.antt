mod Begun
mod Counting
pub mod EachTold
mod Finding
mod Fronts
