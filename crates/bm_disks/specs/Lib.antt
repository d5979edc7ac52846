pub mod Input
pub mod Loading
pub mod Dumping
pub mod Dropping
pub mod JobOpening
