pub mod World
pub mod Open
pub mod Parts
pub mod Room
pub mod Starts
pub mod Stored
pub mod Asks
pub mod Noted
