pub mod JobLines
pub mod Ways
