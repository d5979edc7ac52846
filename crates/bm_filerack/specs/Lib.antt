pub mod FileNames
pub mod FileRack
pub mod Standing
