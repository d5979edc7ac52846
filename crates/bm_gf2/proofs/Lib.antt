pub mod VectorLemmas
pub mod RowLemmas
pub mod StepperLemmas
pub mod RotationLemmas
pub mod MapLemmas
pub mod ShiftLemmas
