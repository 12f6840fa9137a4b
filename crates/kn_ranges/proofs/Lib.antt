pub mod Taking
pub mod Putting
pub mod FreeWords
pub mod Places
pub mod Each
pub mod Words
pub mod CellLists
