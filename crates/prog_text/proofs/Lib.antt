pub mod Alike
pub mod Converse
pub mod Cutting
pub mod DerivedExprs
pub mod Longest
pub mod OneToken
pub mod Sound
pub mod Spelled
pub mod SpelledAgain
pub mod WordBytes
pub mod Derived
pub mod DerivedStatements
pub mod Enough
pub mod Flaws
mod CanonicalExamples
mod EachExamples
pub mod CutMarks
pub mod CutPhrases
mod Examples
pub mod BlockSteps
pub mod Breaks
pub mod Viewed
pub mod Only
pub mod OnlyExprs
pub mod OnlySets
pub mod OnlyStatements
pub mod Local
pub mod LocalExprs
pub mod LocalStatements
pub mod LocalTokens
pub mod Lighter
pub mod PhrasesAgain
pub mod PrintedBlocks
pub mod Refusals
pub mod Reserved
pub mod RoundTrip
mod RefusedExamples
mod SmallBank
mod Vectors
