pub mod AccessLaws
pub mod BeginLaws
pub mod ClashLaws
pub mod CommitLaws
pub mod CycleLaws
pub mod CycleSteps
pub mod EdgeLaws
pub mod EngineLaws
pub mod EventLaws
pub mod FoundCycles
pub mod GrowLaws
pub mod HeadlineLaws
mod HeadlineVectors
pub mod HeldLaws
pub mod InsertLaws
pub mod KeepLaws
pub mod KindLaws
mod LineLemmas
mod MachineVectors
mod MarkLaws
pub mod MissedLaws
pub mod NodeLaws
mod NumberLaws
pub mod OutputLaws
pub mod PlaceLaws
mod PrintedVectors
mod RecordVectors
pub mod RowLaws
pub mod RunLaws
pub mod RunsUnderWay
mod SayingLemmas
mod ScriptVectors
pub mod SinkLaws
pub mod SkewVectors
mod TextLemmas
pub mod ToldLaws
mod TurnVectors
pub mod VulnerableLaws
pub mod WritingLaws
mod WrittenLaws
