pub mod Shared
pub mod Texts
mod TailTexts
mod Pieces
mod Slates
pub mod Shapes
pub mod EntryValues
pub mod Members
pub mod Distinct
pub mod Outcomes
mod LineEnd
pub mod Again
pub mod Fitting
mod Vectors
pub mod Chains
pub mod Safety
pub mod Cursor
pub mod Passing
pub mod Leftover
pub mod Reasons
pub mod Firsts
pub mod Verdicts
pub mod Values
