pub mod Vector
pub mod Matrix
pub mod Affine
pub mod RowMap
pub mod Spread
pub mod Stepper
pub mod Kernel
