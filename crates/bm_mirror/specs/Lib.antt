pub mod TwoSides
pub mod Lasting
pub mod SideCalls
pub mod Attaching
pub mod Creating
pub mod Healing
pub mod Consistent
