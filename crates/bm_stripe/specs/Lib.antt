pub mod Spot
pub mod Units
pub mod Rows
