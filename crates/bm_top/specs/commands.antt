-- What each command does, by its word.
pub mod New
pub mod Load
pub mod Plan
pub mod Run
pub mod Status
pub mod Dump
pub mod Drop
pub mod Detect
pub mod Carry
pub mod Drill
