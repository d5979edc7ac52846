pub mod KeyLemmas
pub mod KindLemmas
pub mod NumberLemmas
pub mod StopLemmas
pub mod NamedLemmas
pub mod OneFileLemmas
