pub mod Candidate
pub mod Answer
pub mod Scan
