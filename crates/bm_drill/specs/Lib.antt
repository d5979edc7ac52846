pub mod Generated
pub mod Sessions
pub mod Session
pub mod Steps
pub mod Drill
