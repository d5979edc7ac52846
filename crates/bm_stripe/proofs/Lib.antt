pub mod SpotLemmas
pub mod BlockLemmas
pub mod UnitLemmas
pub mod RowLemmas
