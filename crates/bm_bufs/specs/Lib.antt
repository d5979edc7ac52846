pub mod Bufs
pub mod Lends
pub mod Places
pub mod Placing
pub mod Runs
pub mod Tiles
pub mod TileMoves
