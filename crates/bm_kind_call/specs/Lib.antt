pub mod Words
pub mod Texts
pub mod Kinds
pub mod Exits
pub mod KindTop
