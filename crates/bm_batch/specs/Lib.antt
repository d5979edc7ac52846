pub mod Slots
pub mod Bays
pub mod Batches
