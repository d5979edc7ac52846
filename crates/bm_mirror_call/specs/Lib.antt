pub mod Words
pub mod SidesLine
pub mod Seen
pub mod Healing
pub mod Sides
pub mod MirrorCall
