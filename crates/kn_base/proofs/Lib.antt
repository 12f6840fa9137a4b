pub mod Updates
pub mod Frames
pub mod Apart
pub mod Order
pub mod Without
pub mod Slots
pub mod Covers
