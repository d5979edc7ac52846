pub mod RunMapLemmas
pub mod StepLemmas
pub mod BasisLemmas
pub mod TileBasisLemmas
pub mod TilingLemmas
