pub mod Checksum
pub mod Pattern
pub mod Placed
