pub mod AttachedLemmas
