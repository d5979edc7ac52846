pub mod PassListLemmas
pub mod RoundsLemmas
