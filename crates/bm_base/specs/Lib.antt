pub mod ShapeRules
pub mod Shape
pub mod Area
pub mod Contents
pub mod Records
pub mod Butterfly
pub mod Gate
pub mod Count
