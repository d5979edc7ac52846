pub mod DumpLemmas
pub mod LoadLemmas
pub mod GateLemmas
pub mod LoadingLemmas
pub mod OpenLemmas
pub mod OpensLemmas
