pub mod KindPlan
pub mod KindPasses
pub mod ListMove
pub mod KindRun
pub mod KindNames
pub mod SetList
pub mod KindText
pub mod KindFile
