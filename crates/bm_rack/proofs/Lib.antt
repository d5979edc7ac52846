pub mod FrameLemmas
pub mod SinkLemmas
pub mod CallLemmas
