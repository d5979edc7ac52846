pub mod GeneratedLemmas
pub mod GoneLemmas
pub mod PaidLemmas
pub mod FrontLemmas
pub mod SessionsLemmas
pub mod RefusalLemmas
pub mod SessionLemmas
pub mod DrillLemmas
