pub mod TextLemmas
pub mod EarlyLemmas
pub mod RanLemmas
pub mod TopLemmas
