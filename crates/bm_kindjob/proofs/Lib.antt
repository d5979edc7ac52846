pub mod SetListLemmas
pub mod TurnLemmas
pub mod KindRoundLemmas
pub mod ListMoveLemmas
pub mod RunLemmas
pub mod SoundLemmas
