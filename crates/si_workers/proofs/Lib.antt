mod BegunLaws
pub mod ClashLemmas
pub mod CountLemmas
mod CrossingLaws
mod GatherLaws
pub mod KeyLemmas
pub mod KnownLaws
mod RunLaws
mod SharedLaws
pub mod TallyLemmas
mod Vectors
