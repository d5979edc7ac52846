pub mod Span
pub mod Rank
pub mod Echelon
pub mod Inverse
pub mod RowSolution
