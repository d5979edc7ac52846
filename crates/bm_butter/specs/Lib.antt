pub mod Records
pub mod Pairs
pub mod LoneBit
pub mod Groups
pub mod Pairings
pub mod Kernels
pub mod Laws
pub mod OnBits
