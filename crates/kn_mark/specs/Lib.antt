pub mod Kept
pub mod Steps
pub mod Agree
pub mod Turns
