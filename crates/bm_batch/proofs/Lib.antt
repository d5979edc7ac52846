pub mod TurnLemmas
pub mod BeginLemmas
pub mod BayLemmas
pub mod BatchLemmas
pub mod BegunLemmas
pub mod RoundLemmas
