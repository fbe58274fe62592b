pub mod CommandLemmas
pub mod CommandVectors
pub mod PartLemmas
pub mod PieceLaws
pub mod QuietLines
pub mod RefusalVectors
pub mod RepairLemmas
pub mod StopLaws
