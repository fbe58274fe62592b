pub mod Closing
pub mod Counts
pub mod Rounds
pub mod Onward
pub mod Alike
pub mod Entering
pub mod Entries
pub mod Deciding
pub mod Answering
pub mod Exposing
pub mod Laws
pub mod Rising
mod Vectors
pub mod Nexts
