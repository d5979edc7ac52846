pub mod BlockCopyLemmas
pub mod CrashChoiceLemmas
pub mod MemRackLemmas
pub mod StoreLemmas
