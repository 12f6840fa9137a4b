pub mod Adding
pub mod Behind
pub mod Fields
pub mod Owners
pub mod Kept
pub mod Frames
