pub mod Ended
pub mod KnownStates
pub mod LastAnswer
pub mod Limits
pub mod Stops
pub mod Work
