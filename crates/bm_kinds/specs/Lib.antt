pub use Rattle.bm_butter.specs.Pairings
pub use Rattle.bm_butter.specs.OnBits
pub mod Kinds
pub mod Groups
pub mod Lowest
pub mod Parts
