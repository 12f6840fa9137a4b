pub mod Held
pub mod Changed
pub mod Answering
pub mod Pausing
