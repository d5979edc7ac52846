pub mod RackView
pub mod Calls
pub mod Frames
pub mod Image
pub mod Sessions
pub mod Source
pub mod Sink
pub mod Untold
