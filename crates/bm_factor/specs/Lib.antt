pub mod Columns
pub mod Trailer
pub mod Reducer
pub mod Swapper
pub mod Eraser
pub mod Factoring
