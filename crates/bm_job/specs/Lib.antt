pub mod Errors
pub mod Ranges
pub mod Follows
pub mod Begins
pub mod Turns
pub mod Runs
