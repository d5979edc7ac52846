pub mod PlacesLemmas
pub mod ClearLemmas
pub mod RunLemmas
pub mod StepLemmas
pub mod TileLemmas
pub mod TurnLemmas
pub mod PartLemmas
pub mod FourLemmas
