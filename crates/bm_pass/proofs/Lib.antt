pub mod CaseLemmas
pub mod PlaceLemmas
pub mod SplitLemmas
pub mod LoadLemmas
pub mod PassLemmas
pub mod RowLemmas
