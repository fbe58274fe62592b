pub mod Holdings
pub mod Passes
