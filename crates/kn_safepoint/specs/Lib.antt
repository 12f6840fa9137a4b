pub mod Kept
pub mod Stages
pub mod Agree
pub mod Turns
