pub mod ScanLemmas
pub mod AnswerLemmas
pub mod LoadLemmas
