pub mod RunMap
pub mod Bases
pub mod Tiling
pub mod Splits
pub mod MostBits
