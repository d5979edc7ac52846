pub mod Calls
pub mod Lines
pub mod BatchOverFiles
pub mod Choice
