pub mod Words
pub mod Calls
pub mod State
pub mod Steps
pub mod MarkRule
pub mod Rule
pub mod Turns
pub mod Laws
